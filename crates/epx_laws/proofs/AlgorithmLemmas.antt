-- Executing component by component is lawful.
use Rattle.std.proofs.Common.{◌≡◌, ◌≢◌, List, [], ◌∷◌, Contains, AllPairs, true, sym, ◌∙◌, subst}
use Rattle.std.proofs.Common.{subst₂, inl, inr, arith, is_lt, nat_cmp}
use Rattle.epx_types.proofs.Common.{flat_map, ordering_then, id_cmp, IsRising, Instance, ids_of}
use Rattle.epx_types.proofs.Common.{InOneComponent, Before, SequenceBefore, IsLawful, Reaches}
use Rattle.epx_types.proofs.Common.{IsRising-same, IsReady-reached, AllPairs-from_slice_get}
use Rattle.epx_types.proofs.Common.{AllPairs-slice_get, AllPairs-append, AllPairs-head}
use Rattle.epx_types.proofs.Common.{AllPairs-tail, Contains-slice_get, Contains-from_flat_map}
use Rattle.epx_types.proofs.Common.{Contains-head, Contains-cons, is_lt-asymm, Before-cases}
use Rattle.epx_types.proofs.Common.{sequence_cmp-IsTotalOrder}
use Rattle.epx_types.specs.declared.id.Id.{Id}
use Rattle.epx_laws.specs.AlgorithmLaws.{all_members, AreSortedComponents}

-- no two instances are each before the other by sequence number
pub SequenceBefore-not_both : (m : List Instance) → IsRising (ids_of m) → (x y : Id)
    → SequenceBefore m x y → ¬ SequenceBefore m y x
SequenceBefore-not_both m rising x y by back =
    let first = IsRising-same m rising back.second by.first back.second_in by.first_in
    (back.second_is ∙ sym by.first_is) in
    let second = IsRising-same m rising back.first by.second back.first_in by.second_in
    (back.first_is ∙ sym by.second_is) in
    let turned = subst₂ (λ (d e : Instance).
    is_lt (ordering_then (nat_cmp d.seq e.seq) (id_cmp y x)) ≡ true) second first back.lower in
    is_lt-asymm sequence_cmp-IsTotalOrder (by.first.seq, x) (by.second.seq, y) by.lower turned

-- and none is before itself
SequenceBefore-differ : (m : List Instance) → IsRising (ids_of m) → (x y : Id)
    → SequenceBefore m x y → x ≢ y
SequenceBefore-differ m rising x y before same =
    let itself = subst (λ (z : Id). SequenceBefore m z y) same before in
    SequenceBefore-not_both m rising y y itself itself

-- a property holds of all pairs of joined lists if it holds in each, and between them
AllPairs-all_members : (R : Id → Id → Type 0) (css : List (List Id))
    → ((c : List Id) → Contains css c → AllPairs R c)
    → AllPairs (λ c d. (x y : Id) → Contains c x → Contains d y → R x y) css
    → AllPairs R (flat_map (λ c. c) css)
AllPairs-all_members R [] inside across = λ i j d l k. absurd (omega arith)
AllPairs-all_members R (c ∷ css) inside across =
    AllPairs-append R c (flat_map (λ c. c) css) (inside c (Contains-head c css))
    (AllPairs-all_members R css (λ d h. inside d (Contains-cons c css d h))
    (AllPairs-tail (λ c d. (x y : Id) → Contains c x → Contains d y → R x y) c css across))
    (λ x y in_x in_y.
    let d = Contains-from_flat_map (λ (c : List Id). c) css y in_y in
    AllPairs-head (λ c d. (x y : Id) → Contains c x → Contains d y → R x y) c css d.0 across d.1
    x y in_x d.2)

module _ (m : List Instance) (rising : IsRising (ids_of m)) (components : List (List Id))
    (sorted : AreSortedComponents m components) where
  -- x may come before y
  record CanPrecede (x y : Id) : Type 0 where
    apart : x ≢ y
    back : Reaches m x y → Reaches m y x
    lower : InOneComponent m x y → SequenceBefore m x y

  inside : (c : List Id) → Contains components c → AllPairs CanPrecede c
  inside c h = AllPairs-from_slice_get CanPrecede c (λ i j x y l p q.
      let one = sorted.together c h x y (Contains-slice_get c i x p) (Contains-slice_get c j y q) in
      let before = AllPairs-slice_get (SequenceBefore m) c (sorted.by_sequence c h) i j x y l p q in
      record {
        apart = SequenceBefore-differ m rising x y before;
        back = λ there. one.1;
        lower = λ again. before;
      })

  across : AllPairs (λ c d. (x y : Id) → Contains c x → Contains d y → CanPrecede x y) components
  across = λ i j d l k x y in_x in_y.
      let none = sorted.reached_first i j d l k x y in_x in_y in
      record {
        apart = λ same. none (inl same);
        back = λ there. absurd (none there);
        lower = λ one. absurd (none one.0);
      }

  all_can : AllPairs CanPrecede (all_members components)
  all_can = AllPairs-all_members CanPrecede components inside across

  can_precede : (x y : Id) → Before (all_members components) x y → CanPrecede x y
  can_precede x y (i, j, l, p, q) =
      AllPairs-slice_get CanPrecede (all_members components) all_can i j x y l p q

  pub IsLawful-all_members : IsLawful m (all_members components)
  IsLawful-all_members = record {
    once = AllPairs-from_slice_get (λ x y. x ≢ y) (all_members components)
        (λ i j x y l p q. (can_precede x y (i, j, l, p, q)).apart);
    only = λ x h. (sorted.members x).0 h;
    whole = λ x ready. (sorted.members x).1 ready;
    after_reached = λ x y h there not_back.
        let in_y = (sorted.members y).1 (IsReady-reached m x y there ((sorted.members x).0 h)) in
        elim (Before-cases (all_members components) y x in_y h
        (λ same. not_back (inl same))) [
          | inl so ↦ so
          | inr late ↦ absurd (not_back ((can_precede x y late).back there))
        ];
    by_sequence = λ x y h k one lower.
        elim (Before-cases (all_members components) x y h k
        (SequenceBefore-differ m rising x y lower)) [
          | inl so ↦ so
          | inr late ↦ absurd
              (SequenceBefore-not_both m rising x y lower
              ((can_precede y x late).lower (one.1, one.0)))
        ];
  }
