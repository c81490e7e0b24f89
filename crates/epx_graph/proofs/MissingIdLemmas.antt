-- The missing instances of a map, gathered, sorted and each kept once.
use Rattle.std.proofs.Common.{◌≡◌, ◌↔◌, inl, inr, ℕ, ◌+◌, true, not, cond, List, [], ◌∷◌, ◌++◌}
use Rattle.std.proofs.Common.{length, take, get_or, position, Option, Some, None, is_some}
use Rattle.std.proofs.Common.{slice_get, Contains, nat_lt, refl, sym, ap, subst, ◌∙◌, append-nil}
use Rattle.std.proofs.Common.{arith}
use Rattle.std.specs.List.{position_or_len}
use Rattle.epx_types.proofs.Common.{is_eq, cases_lt, nat_tests, take_more, map_push, All-contains}
use Rattle.epx_types.proofs.Common.{filter-append, slice_get_within, get_or_from_slice_get, id_cmp}
use Rattle.epx_types.proofs.Common.{IsRising, Instance, ids_of, position_of, IsCommitted}
use Rattle.epx_types.proofs.Common.{id_cmp-IsTotalOrder, Contains-filter, Contains-from_filter}
use Rattle.epx_types.proofs.Common.{Contains-flat_map, Contains-from_flat_map, Contains-from_map}
use Rattle.epx_types.proofs.Common.{Contains-slice_get, position_of-instance}
use Rattle.epx_types.proofs.Common.{IsCommitted-from_Contains}
use Rattle.epx_types.specs.declared.id.Id.{Id}
use Rattle.std.specs.Cmp.{tied_itself}
use Rattle.std.proofs.lemmas.List.Elements.{filter_passes}
use Rattle.std.proofs.lemmas.List.Sums.{fails_before_first}
use Rattle.epx_graph.specs.GraphOf.{IsMissing}
use Rattle.epx_graph.specs.inner.Nodes.{missing_of, all_missing_of, AreMissingIds}

-- ---- an Id without a position is not committed

pub IsCommitted-no_position : (m : List Instance) (x : Id) → position_of m x ≡ None
    → ¬ IsCommitted m x
IsCommitted-no_position m x none h =
    let p = λ (e : Instance). is_eq (id_cmp e.id x) in
    let from = Contains-from_map (λ (e : Instance). e.id) m x h in
    let e = from.0 in
    let k = from.1.0 in
    let passes : p (get_or m k e) ≡ true = ap p from.1.2 ∙ ap (λ y. is_eq (id_cmp y x)) from.2
    ∙ ap is_eq (tied_itself id_cmp-IsTotalOrder x) in
    elim (cases_lt (position_or_len p m) (length m)) [
      | inl l ↦
          let test : nat_lt (position_or_len p m) (length m) ≡ true = grind (arith, nat_tests) in
          let some : position p m ≡ Some (position_or_len p m) = rw test refl in
          absurd (cc (none, some))
      | inr past ↦
          let fails = fails_before_first p m k e (omega (arith, from.1.1)) in
          absurd (cc (passes, fails))
    ]

pub IsCommitted-from_position : (m : List Instance) (x : Id) (i : ℕ) → position_of m x ≡ Some i
    → IsCommitted m x
IsCommitted-from_position m x i some =
    let at = position_of-instance m x i some in
    subst (IsCommitted m) at.2
    (IsCommitted-from_Contains m at.0 (Contains-slice_get m i at.0 at.1))

pub position_of-if_missing : (m : List Instance) (x : Id) → ¬ IsCommitted m x
    → position_of m x ≡ None
position_of-if_missing m x missing = by (position_of m x) refl where
  by : (o : Option ℕ) → position_of m x ≡ o → o ≡ None
  by None e = refl
  by (Some i) e = absurd (missing (IsCommitted-from_position m x i e))

pub lacks-from_missing : (m : List Instance) (x : Id) → ¬ IsCommitted m x
    → not (is_some (position_of m x)) ≡ true
lacks-from_missing m x missing = ap (λ o. not (is_some o)) (position_of-if_missing m x missing)

missing-from_lacks : (m : List Instance) (x : Id) → not (is_some (position_of m x)) ≡ true
    → ¬ IsCommitted m x
missing-from_lacks m x passes = by (position_of m x) refl passes where
  by : (o : Option ℕ) → position_of m x ≡ o → not (is_some o) ≡ true → ¬ IsCommitted m x
  by None e p = IsCommitted-no_position m x e
  by (Some i) e p = absurd (cc p)

-- ---- what is gathered

pub IsCommitted-not_missing : (m : List Instance) (xs : List Id) (x : Id)
    → Contains (missing_of m xs) x
    → ¬ IsCommitted m x
IsCommitted-not_missing m xs x h =
    let p = λ (y : Id). not (is_some (position_of m y)) in
    missing-from_lacks m x
    (All-contains (λ (y : Id). p y ≡ true) (missing_of m xs) x (filter_passes p xs) h)

Contains-all_missing_of : (m : List Instance) (x : Id)
    → Contains (all_missing_of m m) x ↔ IsMissing m x
Contains-all_missing_of m x = (there, back) where
  there : Contains (all_missing_of m m) x → IsMissing m x
  there h =
      let from = Contains-from_flat_map (λ (e : Instance). missing_of m e.deps) m x h in
      let listed = Contains-from_filter (λ (y : Id). not (is_some (position_of m y))) from.0.deps x
      from.2 in
      ((from.0.id, (from.0, from.1, refl, listed)), IsCommitted-not_missing m from.0.deps x from.2)

  back : IsMissing m x → Contains (all_missing_of m m) x
  back h =
      let d = h.0.1 in
      Contains-flat_map (λ (e : Instance). missing_of m e.deps) m d.0 x d.1
      (Contains-filter (λ (y : Id). not (is_some (position_of m y))) d.0.deps x d.3
      (lacks-from_missing m x h.1))

-- one more Id
pub missing_of-skip : (m : List Instance) (xs : List Id) (x : Id) (i : ℕ) → position_of m x ≡ Some i
    → missing_of m (xs ++ x ∷ []) ≡ missing_of m xs
missing_of-skip m xs x i some =
    let p = λ (y : Id). not (is_some (position_of m y)) in
    filter-append p xs (x ∷ []) ∙ ap (λ o. missing_of m xs ++ cond (not (is_some o)) (x ∷ []) [])
    some ∙ append-nil (missing_of m xs)

pub missing_of-push : (m : List Instance) (xs : List Id) (x : Id) → position_of m x ≡ None
    → missing_of m (xs ++ x ∷ []) ≡ missing_of m xs ++ x ∷ []
missing_of-push m xs x none =
    let p = λ (y : Id). not (is_some (position_of m y)) in
    filter-append p xs (x ∷ []) ∙ ap (λ o. missing_of m xs ++ cond (not (is_some o)) (x ∷ []) [])
    none

-- if they are all that the instances lack, they are the missing ones
pub AreMissingIds-gathered : (m : List Instance) (gathered ids : List Id)
    → gathered ≡ all_missing_of m m
    → IsRising ids → ((x : Id) → Contains ids x ↔ Contains gathered x) → AreMissingIds m ids
AreMissingIds-gathered m gathered ids is rising exact = record {
  rising = rising;
  exact = λ x. (
    λ h. (Contains-all_missing_of m x).0
        (subst (λ (l : List Id). Contains l x) is ((exact x).0 h)),
    λ h. (exact x).1 (subst (λ (l : List Id). Contains l x) (sym is)
        ((Contains-all_missing_of m x).1 h)),
  );
}

-- ---- committed Ids

-- one more instance
pub ids_of-take : (m : List Instance) (i : ℕ) (e : Instance) → slice_get m i ≡ Some e
    → ids_of (take (i + 1) m) ≡ ids_of (take i m) ++ e.id ∷ []
ids_of-take m i e at =
    let same : get_or m i e ≡ e = get_or_from_slice_get m i e e at in
    ap ids_of (take_more m i e (slice_get_within m i e at)) ∙ map_push (λ (d : Instance). d.id)
    (take i m) (get_or m i e) ∙ ap (λ (d : Instance). ids_of (take i m) ++ d.id ∷ []) same
