use Rattle.std.proofs.Common.{◌≡◌, ◌++◌, map}
use Rattle.epx_follow.proofs.batch_text.parts_of.Given as goal

abbrev pub invariant-loop-id : goal.invariant-loop-id
invariant-loop-id l =
    (l.ids.items ++ map (λ r. r.0) l.id-iterator.rest.items ≡ map (λ r. r.0) l.fn.executed.items)
    × (l.replies.items ++ map (λ r. r.1) l.id-iterator.rest.items
    ≡ map (λ r. r.1) l.fn.executed.items)
