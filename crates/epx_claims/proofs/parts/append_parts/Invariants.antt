use Rattle.std.proofs.Common.{◌≡◌, ◌++◌, flat_map}
use Rattle.epx_claims.proofs.parts.append_parts.Given as goal

abbrev pub invariant-loop-part : goal.invariant-loop-part
invariant-loop-part g l =
    l.items.items ++ flat_map (λ part. part.items) l.part-iterator.rest.items
    ≡ l.fn.items.items ++ flat_map (λ part. part.items) l.fn.parts.items
