-- Ids sorted and each kept once, and found by binary search in a list by rising Id.
use Rattle.std.proofs.Common.{◌≡◌, ◌↔◌, inl, inr, ℕ, ◌+◌, List, [], ◌∷◌, get_or, Contains}
use Rattle.std.proofs.Common.{Less, Equal, Greater, sym, ap, subst, ◌∙◌, arith}
use Rattle.std.specs.Cmp.{IsEquivalence, tied_itself, eq_by_cmp_equiv}
use Rattle.std.specs.List.{AllByRecursion, dedup}
use Rattle.std.specs.List.Retain.{IsFiltered, DiffersFromLast}
use Rattle.std.specs.List.Sorted.{IsSorted, IsPermutation, IsStrictlySortedBy, IsNonDecreasingBy}
use Rattle.std.specs.List.Sorted.{IsPartitionPoint}
use Rattle.std.specs.Ordering.{is_lt, eq_by_cmp, ordering_index}
use Rattle.std.proofs.lemmas.Bool.{cases_lt, cases_Bool}
use Rattle.std.proofs.lemmas.Bool.Decides.{nat_tests}
use Rattle.std.proofs.lemmas.List.Filters.{dedup_is}
use Rattle.std.proofs.lemmas.List.Kept.{IsStrictlySortedBy-dedup, Contains-dedup}
use Rattle.std.proofs.lemmas.List.Kept.{Contains-from_dedup}
use Rattle.std.proofs.lemmas.List.Sorted.{Contains-permutation, IsPermutation-sym}
use Rattle.std.proofs.lemmas.List.Sorted.{searchable_from_sorted}
use Rattle.epx_types.specs.declared.id.Id.{Id}
use Rattle.epx_types.specs.contracts.id.IdPartialEq.TheImpl as id_eq
use Rattle.epx_types.specs.Ids.{id_cmp, Below, BelowAll, IsRising}
use Rattle.epx_types.proofs.lists.ComparisonLemmas.{id_cmp-IsTotalOrder}
use Rattle.epx_types.proofs.lists.RisingIdLemmas.{AllPairs-from_IsRising}
use Rattle.epx_types.proofs.lists.TotalOrderLemmas.{is_lt-asymm}
use Rattle.epx_types.proofs.commands.EqualityLemmas.{id_eq-Decides}

-- ---- sorted, and each once

pub IsRising-from_strict : (xs : List Id) → IsStrictlySortedBy id_cmp xs → IsRising xs
unfolding IsStrictlySortedBy
IsRising-from_strict [] h = tt
IsRising-from_strict (x ∷ xs) h = (below_all xs h.0, IsRising-from_strict xs h.1) where
  below_all : (ys : List Id) → AllByRecursion (λ y. id_cmp x y ≡ Less) ys → BelowAll x ys
  below_all [] k = tt
  below_all (y ∷ ys) k = (ap is_lt k.0, below_all ys k.1)

ids_tie : (x y : Id) → id_eq.eq-value.it x y ≡ eq_by_cmp id_cmp x y
ids_tie x y = grind (arith, nat_tests)

-- the sorted Ids without equal neighbours
pub IsRising-kept : (gathered sorted ids : List Id) → IsPermutation gathered sorted
    → IsSorted id_cmp sorted → IsFiltered (DiffersFromLast id_eq.eq-value.it) [] sorted ids
    → IsRising ids × ((x : Id) → Contains ids x ↔ Contains gathered x)
IsRising-kept gathered sorted ids moved sorts filtered =
    let E = id_eq.eq-value.it in
    let kept : ids ≡ dedup E sorted = dedup_is E sorted ids filtered in (
      subst IsRising (sym kept)
          (IsRising-from_strict (dedup E sorted)
          (IsStrictlySortedBy-dedup id_cmp-IsTotalOrder {E = E} ids_tie sorted sorts)),
      λ x. (
        λ h. Contains-permutation sorted gathered x (IsPermutation-sym gathered sorted moved)
            (Contains-from_dedup E sorted x (subst (λ (l : List Id). Contains l x) kept h)),
        λ h. subst (λ (l : List Id). Contains l x) (sym kept)
            (keeps sorted x (Contains-permutation gathered sorted x moved h)),
      ),
    )
  where
    equal : IsEquivalence id_eq.eq-value.it
    equal =
        let by_cmp = eq_by_cmp_equiv id_cmp-IsTotalOrder in
        record {
          refl = λ x. ids_tie x x ∙ by_cmp.refl x;
          symm = λ x y. ids_tie x y ∙ by_cmp.symm x y ∙ sym (ids_tie y x);
          congr = λ x y z t. ids_tie x z ∙ by_cmp.congr x y z (sym (ids_tie x y) ∙ t)
              ∙ sym (ids_tie y z);
        }

    keeps : (xs : List Id) (x : Id) → Contains xs x → Contains (dedup id_eq.eq-value.it xs) x
    keeps xs x h =
        Contains-dedup {E = id_eq.eq-value.it} equal (λ y z. (id_eq-Decides y z).0) xs x h

-- ---- found by binary search

pub IsSorted-from_rising : (xs : List Id) → IsRising xs → IsSorted id_cmp xs
IsSorted-from_rising xs rising k d low l =
    let below : Below (get_or xs k d) (get_or xs (k + 1) d) =
    AllPairs-from_IsRising xs rising k (k + 1) d (omega arith) l in
    elim (cases_Bool (is_lt (id_cmp (get_or xs (k + 1) d) (get_or xs k d)))) [
      | inl back ↦ absurd
          (is_lt-asymm id_cmp-IsTotalOrder (get_or xs k d) (get_or xs (k + 1) d) below back)
      | inr level ↦ level
    ]

-- no element is equal if all before an index are less and all others greater
pub Contains-not_found : (xs : List Id) (x : Id) (i : ℕ) → IsRising xs
    → (IsNonDecreasingBy (λ y. ordering_index (id_cmp y x)) xs
    → IsPartitionPoint (λ y. id_cmp y x ≡ Less) (λ y. id_cmp y x ≡ Greater) xs i) → ¬ Contains xs x
Contains-not_found xs x i rising parts h =
    let point =
    parts (searchable_from_sorted id_cmp-IsTotalOrder (λ (y : Id). y) xs x
    (IsSorted-from_rising xs rising)) in
    let tie : id_cmp (get_or xs h.0 x) x ≡ Equal =
    ap (λ y. id_cmp y x) h.2 ∙ tied_itself id_cmp-IsTotalOrder x in
    elim (cases_lt h.0 i) [
      | inl l ↦ let less = point.0 h.0 x (omega arith) l in absurd (cc (less, tie))
      | inr m ↦ let more = point.1 h.0 x m h.1 in absurd (cc (more, tie))
    ]
