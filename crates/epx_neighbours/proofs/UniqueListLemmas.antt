-- A sorted list of which equal neighbours are dropped.
use Rattle.std.proofs.Common.{◌≡◌, ◌↔◌, true, Bool, List, [], ◌∷◌, Contains, AllPairs, Ordering}
use Rattle.std.proofs.Common.{Less, is_lt, sym, ap, subst, ◌∙◌, arith}
use Rattle.std.specs.Cmp.{IsTotalOrder, IsEquivalence, eq_by_cmp_equiv, Equal-is}
use Rattle.std.specs.FinMap.{IsAntisymmetric}
use Rattle.std.specs.List.{dedup}
use Rattle.std.specs.List.Retain.{IsFiltered, DiffersFromLast}
use Rattle.std.specs.List.Sorted.{IsSorted, IsPermutation, IsStrictlySortedBy}
use Rattle.std.specs.Ordering.{eq_by_cmp}
use Rattle.std.proofs.lemmas.List.Filters.{dedup_is}
use Rattle.std.proofs.lemmas.List.Kept.{IsStrictlySortedBy-dedup, Contains-dedup}
use Rattle.std.proofs.lemmas.List.Kept.{Contains-from_dedup}
use Rattle.epx_types.proofs.Common.{AllPairs-from_parts, All-from_recursion, All-contains}
use Rattle.epx_types.proofs.Common.{Contains-permutation, IsPermutation-sym}

module _ {K : Type 0} (R : K → K → Ordering) (total : IsTotalOrder R) (same : IsAntisymmetric R)
    (E : K → K → Bool) (ties : (x y : K) → E x y ≡ eq_by_cmp R x y) where
  rises_from_strict : (xs : List K) → IsStrictlySortedBy R xs
      → AllPairs (λ x y. is_lt (R x y) ≡ true) xs
  unfolding IsStrictlySortedBy
  rises_from_strict [] h = λ i j d l k. absurd (omega arith)
  rises_from_strict (x ∷ xs) h =
      AllPairs-from_parts (λ y z. is_lt (R y z) ≡ true) x xs
      (λ y c. ap is_lt (All-contains (λ z. R x z ≡ Less) xs y
      (All-from_recursion (λ z. R x z ≡ Less) xs h.0) c))
      (rises_from_strict xs h.1)

  equal : IsEquivalence E
  equal =
      let by_cmp = eq_by_cmp_equiv total in
      record {
        refl = λ x. ties x x ∙ by_cmp.refl x;
        symm = λ x y. ties x y ∙ by_cmp.symm x y ∙ sym (ties y x);
        congr = λ x y z t. ties x z ∙ by_cmp.congr x y z (sym (ties x y) ∙ t) ∙ sym (ties y z);
      }

  -- the list rises, and has the elements that it was made from
  pub AllPairs-kept : (gathered sorted kept : List K) → IsPermutation gathered sorted
      → IsSorted R sorted → IsFiltered (DiffersFromLast E) [] sorted kept
      → AllPairs (λ x y. is_lt (R x y) ≡ true) kept
      × ((x : K) → Contains kept x ↔ Contains gathered x)
  AllPairs-kept gathered sorted kept moved sorts filtered =
      let is : kept ≡ dedup E sorted = dedup_is E sorted kept filtered in (
        subst (AllPairs (λ x y. is_lt (R x y) ≡ true)) (sym is)
            (rises_from_strict (dedup E sorted)
            (IsStrictlySortedBy-dedup total {E = E} ties sorted sorts)),
        λ x. (
          λ h. Contains-permutation sorted gathered x (IsPermutation-sym gathered sorted moved)
              (Contains-from_dedup E sorted x (subst (λ l. Contains l x) is h)),
          λ h. subst (λ l. Contains l x) (sym is)
              (Contains-dedup {E = E} equal
              (λ y z t. same y z ((Equal-is (R y z)).0 (sym (ties y z) ∙ t))) sorted x
              (Contains-permutation gathered sorted x moved h)),
        ),
      )
