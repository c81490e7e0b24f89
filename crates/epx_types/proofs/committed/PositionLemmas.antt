-- The position of an instance in the committed map.
use Rattle.std.proofs.Common.{◌≡◌, inl, inr, ◌<◌, ℕ, zero, suc, Bool, true, false, List, [], ◌∷◌}
use Rattle.std.proofs.Common.{length, get_or, position, Some, slice_get, nat_lt, is_eq, refl, sym}
use Rattle.std.proofs.Common.{ap, ◌∙◌, subst, arith}
use Rattle.std.specs.Cmp.{Equal-is, tied_itself}
use Rattle.std.specs.List.{position_or_len}
use Rattle.std.proofs.lemmas.Bool.{cases_Bool}
use Rattle.std.proofs.lemmas.Bool.Decides.{nat_tests}
use Rattle.std.proofs.lemmas.List.Quantifiers.{position-Some}
use Rattle.std.proofs.lemmas.Option.{slice_get_within, slice_get-get_or}
use Rattle.epx_types.specs.declared.id.Id.{Id}
use Rattle.epx_types.specs.Ids.{id_cmp, Below, IsRising}
use Rattle.epx_types.specs.Instances.{Instance}
use Rattle.epx_types.specs.CommittedMap.{ids_of, instance_of, position_of}
use Rattle.epx_types.proofs.committed.AgreementLemmas.{instance_of-iff_contains}
use Rattle.epx_types.proofs.lists.ListPositionLemmas.{AllPairs-slice_get, Contains-slice_get}
use Rattle.epx_types.proofs.lists.ListPositionLemmas.{slice_get-map}
use Rattle.epx_types.proofs.lists.RisingIdLemmas.{AllPairs-from_IsRising}
use Rattle.epx_types.proofs.lists.TotalOrderLemmas.{is_lt-irrefl}
use Rattle.epx_types.proofs.lists.ComparisonLemmas.{id_cmp-IsTotalOrder, id_cmp-IsAntisymmetric}

-- the first position at which a test passes
first_position : {X : Type 0} (p : X → Bool) (xs : List X) (i : ℕ) (x : X)
    → slice_get xs i ≡ Some x → p x ≡ true
    → ((k : ℕ) (y : X) → k < i → slice_get xs k ≡ Some y → p y ≡ false) → position_or_len p xs ≡ i
first_position p [] i x at passes earlier = absurd (cc at)
first_position p (y ∷ xs) zero x at passes earlier =
    let same : y ≡ x = cc at in
    let here : p y ≡ true = ap p same ∙ passes in
    rw here refl
first_position p (y ∷ xs) (suc i) x at passes earlier =
    let not_here : p y ≡ false = earlier 0 y (omega arith) refl in
    let rest = first_position p xs i x at passes (λ k z l e. earlier (suc k) z (omega arith) e) in
    rw not_here (omega (arith, rest))

position_first : {X : Type 0} (p : X → Bool) (xs : List X) (i : ℕ) (x : X)
    → slice_get xs i ≡ Some x → p x ≡ true
    → ((k : ℕ) (y : X) → k < i → slice_get xs k ≡ Some y → p y ≡ false) → position p xs ≡ Some i
position_first p xs i x at passes earlier =
    let within : i < length xs = slice_get_within xs i x at in
    let test : nat_lt i (length xs) ≡ true = grind (arith, nat_tests) in
    rw (first_position p xs i x at passes earlier) (rw test refl)

-- the instance at the position of an Id has that Id
pub position_of-instance : (m : List Instance) (x : Id) (i : ℕ) → position_of m x ≡ Some i
    → (e : Instance) × (slice_get m i ≡ Some e) × (e.id ≡ x)
position_of-instance m x i found =
    let none : Instance = record { id = x; seq = 0; deps = []; ops = [] } in
    let at = position-Some (λ (e : Instance). is_eq (id_cmp e.id x)) m i none found in (
      get_or m i none,
      slice_get-get_or m i none at.0,
      id_cmp-IsAntisymmetric (get_or m i none).id x
          ((Equal-is (id_cmp (get_or m i none).id x)).0 at.1),
    )

-- the position of an Id is that of its instance
pub position_of-found : (m : List Instance) → IsRising (ids_of m) → (x : Id) (i : ℕ) (e : Instance)
    → slice_get m i ≡ Some e → e.id ≡ x → position_of m x ≡ Some i
position_of-found m rising x i e at is =
    position_first (λ (d : Instance). is_eq (id_cmp d.id x)) m i e at (tied e.id is)
    (λ k d l before. not_yet d
    (AllPairs-slice_get Below (ids_of m) (AllPairs-from_IsRising (ids_of m) rising) k i d.id
    e.id l (slice_get-map (λ (c : Instance). c.id) m k d before)
    (slice_get-map (λ (c : Instance). c.id) m i e at)))
  where
    tied : (y : Id) → y ≡ x → is_eq (id_cmp y x) ≡ true
    tied y same = ap (λ z. is_eq (id_cmp z x)) same ∙ ap is_eq (tied_itself id_cmp-IsTotalOrder x)

    not_yet : (d : Instance) → Below d.id e.id → is_eq (id_cmp d.id x) ≡ false
    not_yet d below =
        elim (cases_Bool (is_eq (id_cmp d.id x))) [
          | inl here ↦
              let same : d.id ≡ e.id = id_cmp-IsAntisymmetric d.id x
              ((Equal-is (id_cmp d.id x)).0 here) ∙ sym is in
              absurd (is_lt-irrefl id_cmp-IsTotalOrder d.id (subst (Below d.id) (sym same) below))
          | inr other ↦ other
        ]

-- a position is within the committed instances
pub position_of-within : (m : List Instance) (x : Id) (i : ℕ) → position_of m x ≡ Some i
    → i < length m
position_of-within m x i found = let position = position_of-instance m x i found in
    slice_get_within m i position.0 position.1

-- a look-up finds the instance at the position of an Id
pub instance_of-position : (m : List Instance) → IsRising (ids_of m)
    → (x : Id) (i : ℕ) (e : Instance) → position_of m x ≡ Some i → slice_get m i ≡ Some e
    → instance_of m x ≡ Some e
instance_of-position m rising x i e found at =
    let position = position_of-instance m x i found in
    let same : position.0 ≡ e = cc (position.1, at) in
    (instance_of-iff_contains m rising x e).1
    (Contains-slice_get m i e at, sym (ap (λ (d : Instance). d.id) same) ∙ position.2)
