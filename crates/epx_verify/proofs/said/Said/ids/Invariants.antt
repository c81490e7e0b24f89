use Rattle.std.proofs.Common.{◌≡◌, map, take}
use Rattle.epx_verify.proofs.said.Said.ids.Given as goal

abbrev pub invariant-loop-id : goal.invariant-loop-id
invariant-loop-id l = l.ids.items ≡ map (λ p. p.0) (take l.id-index l.id-items)
