use Rattle.std.proofs.Common.{flat_map, IsPermutation}
use Rattle.epx_types.proofs.Common.{IfOk-at_ok}
use Rattle.epx_store.proofs.RangeLemmas.{IsPermutation-joined}
use Rattle.epx_store.proofs.ranges.+ranges.Goals as goal

pub returns-clause-all : goal.returns-clause-all
returns-clause-all g t c =
    let first = IfOk-at_ok (λ r. IsPermutation (flat_map (λ l. l.items) c.in_ok-low.low)
    r.0.items) c.in_ok-pairs.was c.join-first.ensures.first.0 in
    let second = IfOk-at_ok (λ r. IsPermutation (flat_map (λ l. l.items) c.in_ok-low.high)
    r.0.items) c.in_ok-later.was c.join-first.ensures.second.0 in
    IsPermutation-joined _ _ _ _ _ _ c.in_ok-low.ensures first second c.in_ok-above.ensures.all
