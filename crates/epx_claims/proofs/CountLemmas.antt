-- Tests on numbers, and how often a number is in a list.
use Rattle.std.proofs.Common.{◌≡◌, ◌≢◌, ℕ, ◌+◌, ◌<◌, ◌≤◌, eqb, min, List, [], ◌∷◌, ◌++◌, length}
use Rattle.std.proofs.Common.{get_or, zero, suc, arith}
use Rattle.epx_types.proofs.Common.{nat_tests}
use Rattle.epx_claims.specs.between.Count.{total, one_if, occurrences, indicator_below}

-- if the test that a number is 0 counts as 0, it is positive
pub one_if-to_positive : (a : ℕ) → one_if (eqb a 0) ≡ 0 → 0 < a
one_if-to_positive a e = grind (arith, nat_tests)

-- the converse
pub one_if-positive : (a : ℕ) → 0 < a → one_if (eqb a 0) ≡ 0
one_if-positive a h = grind (arith, nat_tests)

-- if the bound grows by one, one more number is below it
pub indicator_below-more : (x c n : ℕ) → c < n
    → indicator_below x (min (c + 1) n) ≡ indicator_below x (min c n) + one_if (eqb c x)
indicator_below-more x c n h = grind (arith, nat_tests)

-- a word that grows past the number of pieces changes nothing
pub indicator_below-full : (x c n : ℕ) → n ≤ c
    → indicator_below x (min (c + 1) n) ≡ indicator_below x (min c n)
indicator_below-full x c n h = grind (arith, nat_tests)

-- a number that counts is below the word
pub indicator_below-within_min : (x c n : ℕ) → 1 ≤ indicator_below x (min c n) → x < c
indicator_below-within_min x c n h = grind (arith, nat_tests)

-- the sum over two lists, one appended to the other
pub total-append : {A : Type 0} (f : A → ℕ) (xs ys : List A)
    → total f (xs ++ ys) ≡ total f xs + total f ys
total-append f [] ys = omega arith
total-append f (x ∷ xs) ys = omega (arith, total-append f xs ys)

-- a number that is in the list counts at least once
pub occurrences-at_index : (xs : List ℕ) (k d : ℕ) → k < length xs
    → 1 ≤ occurrences (get_or xs k d) xs
occurrences-at_index [] k d h = absurd (omega arith)
occurrences-at_index (y ∷ ys) zero d h = grind (arith, nat_tests)
occurrences-at_index (y ∷ ys) (suc k) d h = omega (arith, occurrences-at_index ys k d (omega arith))

-- a number that counts as below the bound is below it
pub indicator_below-within : (x n : ℕ) → 1 ≤ indicator_below x n → x < n
indicator_below-within x n h = grind (arith, nat_tests)

-- the converse
pub indicator_below-if_below : (x n : ℕ) → x < n → indicator_below x n ≡ 1
indicator_below-if_below x n h = grind (arith, nat_tests)

-- the test that two different numbers are equal counts as 0
pub one_if-other : (a b : ℕ) → b ≢ a → one_if (eqb a b) ≡ 0
one_if-other a b h = grind (arith, nat_tests)

-- a number counts for the lesser of two bounds at most as often as for the other
pub indicator_below-min : (x c n : ℕ) → indicator_below x (min c n) ≤ indicator_below x n
indicator_below-min x c n = grind (arith, nat_tests)
