-- The known bytes of a device after several calls.
use Rattle.std.proofs.Common.{◌≡◌, ℕ, ◌+◌, List, ◌++◌, take, drop, Option, None, Some, sym, arith}
use Rattle.epx_types.proofs.Common.{common_steps, Appends, Consumes}
use Rattle.std.proofs.Math.Seq.{take-add}

pub Consumes-trans : (a b c : Option (List ℕ)) (xs ys : List ℕ) → Consumes a b xs → Consumes b c ys
    → Consumes a c (xs ++ ys)
Consumes-trans None b c xs ys p q = tt
Consumes-trans (Some us) None c xs ys p q = absurd p
Consumes-trans (Some us) (Some vs) None xs ys p q = absurd q
Consumes-trans (Some us) (Some vs) (Some ws) xs ys p q = grind (arith, common_steps)

pub Appends-trans : (a b c : Option (List ℕ)) (xs ys : List ℕ) → Appends a b xs → Appends b c ys
    → Appends a c (xs ++ ys)
Appends-trans None b c xs ys p q = tt
Appends-trans (Some us) None c xs ys p q = absurd p
Appends-trans (Some us) (Some vs) None xs ys p q = absurd q
Appends-trans (Some us) (Some vs) (Some ws) xs ys p q = grind (arith, common_steps)

pub take-more : (n k : ℕ) (xs : List ℕ) → take n xs ++ take k (drop n xs) ≡ take (n + k) xs
take-more n k xs = sym (take-add n k xs)
