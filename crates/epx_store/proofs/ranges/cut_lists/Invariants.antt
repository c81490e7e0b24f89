use Rattle.std.proofs.Common.{◌≡◌, ◌++◌, flat_map, length, take, IsPermutation}
use Rattle.epx_store.proofs.ranges.cut_lists.Given as goal

abbrev pub invariant-loop-number : goal.invariant-loop-number
invariant-loop-number l = (length l.lists ≡ 16) × (length l.low ≡ 16) × (length l.high ≡ 16)
    × IsPermutation (flat_map (λ v. v.items) (take l.number l.lists))
    (flat_map (λ v. v.items) (take l.number l.low)
    ++ flat_map (λ v. v.items) (take l.number l.high))
