-- The rows of one list of numbers, followed by those of another.
use Rattle.std.proofs.Common.{◌≡◌, ℕ, ◌+◌, ◌-◌, ◌≤◌, List, [], ◌∷◌, ◌++◌, length, take, drop, map}
use Rattle.std.proofs.Common.{All, refl, sym, ap, subst, ◌∙◌, arith, slice_range}
use Rattle.epx_types.proofs.Common.{drop-append-add, length-append, All-from_get_or}
use Rattle.epx_rows.specs.RowEnds.{rows_from, AreRowEnds}
use Rattle.epx_rows.proofs.RowLemmas.{slice_range-append, AreRowEnds-start_within, AreRowEnds-rise}

-- a part of the second list is in both lists together, moved by the length of the first
range_moved : (xs ys : List ℕ) (a b : ℕ)
    → slice_range (xs ++ ys) (length xs + a) (length xs + b) ≡ slice_range ys a b
range_moved xs ys a b =
    let long : (length xs + b) - (length xs + a) ≡ b - a = omega arith in
    ap (λ n. take n (drop (length xs + a) (xs ++ ys))) long
    ∙ ap (take (b - a)) (drop-append-add xs ys a)

rows_moved : (xs ys : List ℕ) (start : ℕ) (ends : List ℕ)
    → rows_from (length xs + start) (map (λ end. length xs + end) ends) (xs ++ ys)
    ≡ rows_from start ends ys
rows_moved xs ys start [] = refl
rows_moved xs ys start (end ∷ ends) =
    let first = range_moved xs ys start end in
    let rest = rows_moved xs ys end ends in
    λ i. first i ∷ rest i

rows_joined : (start : ℕ) (ends xs later ys : List ℕ) → AreRowEnds start ends (length xs)
    → rows_from start (ends ++ map (λ end. length xs + end) later) (xs ++ ys)
    ≡ rows_from start ends xs ++ rows_from 0 later ys
rows_joined start [] xs later ys h =
    let begins : start ≡ length xs + 0 = omega (arith, h) in
    ap (λ a. rows_from a (map (λ end. length xs + end) later) (xs ++ ys)) begins
    ∙ rows_moved xs ys 0 later
rows_joined start (end ∷ ends) xs later ys h =
    let first =
    slice_range-append xs ys start end h.0 (AreRowEnds-start_within end ends (length xs) h.1) in
    let rest = rows_joined end ends xs later ys h.1 in
    λ i. first i ∷ rest i

ends_moved : (n start : ℕ) (ends : List ℕ) (m : ℕ) → AreRowEnds start ends m
    → AreRowEnds (n + start) (map (λ end. n + end) ends) (n + m)
ends_moved n start [] m h = ap (λ a. n + a) h
ends_moved n start (end ∷ ends) m h = (omega (arith, h.0), ends_moved n end ends m h.1)

ends_joined : (start : ℕ) (ends : List ℕ) (n : ℕ) (later : List ℕ) (m : ℕ)
    → AreRowEnds start ends n → AreRowEnds 0 later m
    → AreRowEnds start (ends ++ map (λ end. n + end) later) (n + m)
ends_joined start [] n later m h k =
    let begins : n + 0 ≡ start = omega (arith, h) in
    subst (λ a. AreRowEnds a (map (λ end. n + end) later) (n + m)) begins
    (ends_moved n 0 later m k)
ends_joined start (end ∷ ends) n later m h k = (h.0, ends_joined end ends n later m h.1 k)

-- each row ends inside the list
pub All-ends_within : (start : ℕ) (ends : List ℕ) (n : ℕ) → AreRowEnds start ends n
    → All (λ end. end ≤ n) ends
All-ends_within start ends n h = All-from_get_or (λ end. end ≤ n) ends 0
    (λ k l. (AreRowEnds-rise start ends n h k l).1)

-- the numbers of both, and the ends of their rows
module _ (ends xs later ys ends' numbers' : List ℕ) (n : ℕ) (many : n ≡ length xs)
    (ends_are : ends' ≡ ends ++ map (λ end. n + end) later) (numbers_are : numbers' ≡ xs ++ ys)
    (h : AreRowEnds 0 ends (length xs)) (k : AreRowEnds 0 later (length ys)) where
  ends_is : ends' ≡ ends ++ map (λ end. length xs + end) later
  ends_is = ends_are ∙ ap (λ a. ends ++ map (λ end. a + end) later) many

  pub AreRowEnds-append : AreRowEnds 0 ends' (length numbers')
  AreRowEnds-append =
      let long : length xs + length ys ≡ length numbers' =
      sym (ap length numbers_are ∙ length-append xs ys) in
      subst (AreRowEnds 0 ends') long
      (subst (λ (es : List ℕ). AreRowEnds 0 es (length xs + length ys)) (sym ends_is)
      (ends_joined 0 ends (length xs) later (length ys) h k))

  pub rows_from-append : rows_from 0 ends' numbers' ≡ rows_from 0 ends xs ++ rows_from 0 later ys
  rows_from-append = ap (λ es. rows_from 0 es numbers') ends_is
      ∙ ap (rows_from 0 (ends ++ map (λ end. length xs + end) later)) numbers_are
      ∙ rows_joined 0 ends xs later ys h
