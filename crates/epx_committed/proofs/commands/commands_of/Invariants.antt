use Rattle.std.proofs.Common.{◌≡◌, map, take}
use Rattle.epx_types.proofs.Common.{instance_of, ops_or_empty}
use Rattle.epx_committed.proofs.commands.commands_of.Given as goal

abbrev pub invariant-loop-id : goal.invariant-loop-id
invariant-loop-id l =
    (map (λ c. c.id) l.commands.items ≡ take l.id-index l.ids)
    × (map (λ c. c.ops.now) l.commands.items
    ≡ map (λ x. ops_or_empty (instance_of l.merged x)) (take l.id-index l.ids))
