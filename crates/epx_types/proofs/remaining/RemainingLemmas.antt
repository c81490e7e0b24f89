-- The remaining map: its Ids, its instances and their dependencies.
use Rattle.std.proofs.Common.{◌≡◌, ◌⊎◌, ◌↔◌, true, false, not, List, [], ◌∷◌, filter}
use Rattle.std.proofs.Common.{Contains, refl, sym, ap, ◌∙◌, subst, inl, inr}
use Rattle.std.specs.Ordering.{eq_by_cmp}
use Rattle.std.specs.Cmp.{eq_by_cmp_equiv, Equal-is}
use Rattle.std.proofs.lemmas.Bool.{cases_Bool, not-true}
use Rattle.std.proofs.lemmas.List.Elements.{All-contains, filter_passes}
use Rattle.std.proofs.lemmas.Map.Views.{Contains-from_any, list_any-from_Contains}
use Rattle.epx_types.specs.declared.id.Id.{Id}
use Rattle.epx_types.specs.Ids.{id_cmp, BelowAll, IsRising}
use Rattle.epx_types.specs.Instances.{Instance}
use Rattle.epx_types.specs.CommittedMap.{ids_of}
use Rattle.epx_types.specs.Reaching.{DependsOn}
use Rattle.epx_types.specs.Done.{is_among, without_deps, remaining}
use Rattle.epx_types.proofs.lists.MembershipLemmas.{Contains-nil, Contains-head, Contains-cons}
use Rattle.epx_types.proofs.lists.MembershipLemmas.{Contains-cons_cases, Contains-map}
use Rattle.epx_types.proofs.lists.MembershipLemmas.{Contains-from_map, Contains-filter}
use Rattle.epx_types.proofs.lists.MembershipLemmas.{Contains-from_filter}
use Rattle.epx_types.proofs.lists.ComparisonLemmas.{id_cmp-IsTotalOrder, id_cmp-IsAntisymmetric}

all_kept : {X : Type 0} (xs : List X) → filter (λ x. not false) xs ≡ xs
all_kept [] = refl
all_kept (x ∷ xs) = ap (λ rest. x ∷ rest) (all_kept xs)

-- if nothing is done, the whole map remains
pub remaining-nil : (m : List Instance) → remaining [] m ≡ m
remaining-nil [] = refl
remaining-nil (e ∷ m) =
    let deps = all_kept e.deps in
    let rest = remaining-nil m in
    λ i. record e { deps = deps i } ∷ rest i

-- the test whether an Id is done, with its meaning
pub is_among-cases : (done : List Id) (x : Id)
    → (is_among done x ≡ true) × Contains done x ⊎ (is_among done x ≡ false) × (¬ Contains done x)
is_among-cases done x =
    elim (cases_Bool (is_among done x)) [
      | inl found ↦ inl (
        found,
        Contains-from_any {eq = eq_by_cmp id_cmp}
            (λ y z e. id_cmp-IsAntisymmetric y z ((Equal-is (id_cmp y z)).0 e)) x done found,
      )
      | inr missed ↦ inr (
        missed,
        λ h. let found : is_among done x ≡ true =
            list_any-from_Contains {eq = eq_by_cmp id_cmp} (eq_by_cmp_equiv id_cmp-IsTotalOrder) x
            done
            h in
            absurd (cc (found, missed)),
      )
    ]

module _ (done : List Id) where
  Contains-remaining : (m : List Instance) (x : Id) → Contains (ids_of m) x → ¬ Contains done x
      → Contains (ids_of (remaining done m)) x
  Contains-remaining [] x h left = h
  Contains-remaining (e ∷ m) x h left =
      elim (is_among-cases done e.id) [
        | inl among ↦ rw among.0 (elim (Contains-cons_cases e.id (ids_of m) x h) [
          | inl same ↦ absurd (left (subst (Contains done) same among.1))
          | inr rest ↦ Contains-remaining m x rest left
        ])
        | inr other ↦ rw other.0 (elim (Contains-cons_cases e.id (ids_of m) x h) [
          | inl same ↦ subst (Contains (e.id ∷ ids_of (remaining done m))) same
              (Contains-head e.id (ids_of (remaining done m)))
          | inr rest ↦ Contains-cons e.id (ids_of (remaining done m)) x
              (Contains-remaining m x rest left)
        ])
      ]

  Contains-from_remaining : (m : List Instance) (x : Id) → Contains (ids_of (remaining done m)) x
      → Contains (ids_of m) x × (¬ Contains done x)
  Contains-from_remaining [] x h = absurd (Contains-nil x h)
  Contains-from_remaining (e ∷ m) x h =
      elim (is_among-cases done e.id) [
        | inl among ↦ let rest = Contains-from_remaining m x (rw among.0 at h) in
            (Contains-cons e.id (ids_of m) x rest.0, rest.1)
        | inr other ↦ elim (Contains-cons_cases e.id (ids_of (remaining done m)) x
            (rw other.0 at h)) [
              | inl same ↦ (
                subst (Contains (e.id ∷ ids_of m)) same (Contains-head e.id (ids_of m)),
                λ among. other.1 (subst (Contains done) (sym same) among),
              )
              | inr left ↦ let rest = Contains-from_remaining m x left in
                  (Contains-cons e.id (ids_of m) x rest.0, rest.1)
            ]
      ]

  -- the remaining map has exactly the Ids that are not done
  pub Contains-remaining_iff : (m : List Instance) (x : Id)
      → Contains (ids_of (remaining done m)) x ↔ Contains (ids_of m) x × (¬ Contains done x)
  Contains-remaining_iff m x = (Contains-from_remaining m x, λ h. Contains-remaining m x h.0 h.1)

  BelowAll-remaining : (x : Id) (m : List Instance) → BelowAll x (ids_of m)
      → BelowAll x (ids_of (remaining done m))
  BelowAll-remaining x [] h = tt
  BelowAll-remaining x (e ∷ m) h =
      elim (is_among-cases done e.id) [
        | inl among ↦ rw among.0 (BelowAll-remaining x m h.1)
        | inr other ↦ rw other.0 (h.0, BelowAll-remaining x m h.1)
      ]

  -- if the Ids of a map rise, those of the remaining map rise
  pub IsRising-remaining : (m : List Instance) → IsRising (ids_of m)
      → IsRising (ids_of (remaining done m))
  IsRising-remaining [] h = tt
  IsRising-remaining (e ∷ m) h =
      elim (is_among-cases done e.id) [
        | inl among ↦ rw among.0 (IsRising-remaining m h.1)
        | inr other ↦ rw other.0 (BelowAll-remaining e.id m h.0, IsRising-remaining m h.1)
      ]

  -- ---- dependencies in the remaining map

  -- a remaining instance is an instance of the map that is not done, without its done dependencies
  pub remaining-from_map : (m : List Instance) (e : Instance) → Contains (remaining done m) e
      → (d : Instance) × Contains m d × (is_among done d.id ≡ false) × (without_deps done d ≡ e)
  remaining-from_map m e h =
      let d = Contains-from_map (without_deps done) (filter (λ i. not (is_among done i.id)) m) e
      h in
      let kept = All-contains (λ i. not (is_among done i.id) ≡ true)
      (filter (λ i. not (is_among done i.id)) m) d.0
      (filter_passes (λ i. not (is_among done i.id)) m) d.1 in (
        d.0,
        Contains-from_filter (λ i. not (is_among done i.id)) m d.0 d.1,
        not-true (is_among done d.0.id) kept,
        d.2,
      )

  pub is_among-excludes : (x : Id) → is_among done x ≡ false → ¬ Contains done x
  is_among-excludes x e = elim (is_among-cases done x)
      [ inl found ↦ absurd (cc (e, found.0)) | inr none ↦ none.1 ]

  pub is_among-false : (x : Id) → ¬ Contains done x → is_among done x ≡ false
  is_among-false x none = elim (is_among-cases done x)
      [ inl found ↦ absurd (none found.1) | inr missed ↦ missed.0 ]

  -- a remaining instance depends on its former dependencies that are not done
  pub DependsOn-remaining : (m : List Instance) (x y : Id) → DependsOn (remaining done m) x y
      ↔ DependsOn m x y × (¬ Contains done x) × (¬ Contains done y)
  DependsOn-remaining m x y = (there, back) where
    there : DependsOn (remaining done m) x y → DependsOn m x y × (¬ Contains done x)
        × (¬ Contains done y)
    there (e, in_e, is, listed) =
        let d = remaining-from_map m e in_e in
        let same_id : d.0.id ≡ x = ap (λ i. i.id) d.3 ∙ is in
        let among : Contains (filter (λ z. not (is_among done z)) d.0.deps) y =
        subst (λ (i : Instance). Contains i.deps y) (sym d.3) listed in
        let kept = All-contains (λ z. not (is_among done z) ≡ true)
        (filter (λ z. not (is_among done z)) d.0.deps) y
        (filter_passes (λ z. not (is_among done z)) d.0.deps) among in (
          (d.0, d.1, same_id, Contains-from_filter (λ z. not (is_among done z)) d.0.deps y among),
          is_among-excludes x (ap (is_among done) (sym same_id) ∙ d.2),
          is_among-excludes y (not-true (is_among done y) kept),
        )

    back : DependsOn m x y × (¬ Contains done x) × (¬ Contains done y)
        → DependsOn (remaining done m) x y
    back ((e, in_e, is, listed), x_left, y_left) =
        let passes : not (is_among done e.id) ≡ true =
        ap not (ap (is_among done) is ∙ is_among-false x x_left) in (
          without_deps done e,
          Contains-map (without_deps done) (filter (λ i. not (is_among done i.id)) m) e
              (Contains-filter (λ i. not (is_among done i.id)) m e in_e passes),
          is,
          Contains-filter (λ z. not (is_among done z)) e.deps y listed
              (ap not (is_among-false y y_left)),
        )
