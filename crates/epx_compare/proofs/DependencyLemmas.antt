-- The dependencies of an instance, by its lines and by its versions.
use Rattle.std.proofs.Common.{◌≡◌, ◌∙◌, ◌↔◌, inl, inr, ℕ, ◌<◌, Bool, true, false, not, ◌&&◌, List}
use Rattle.std.proofs.Common.{[], ◌∷◌, length, map, filter, All, Contains, Option, Some, None}
use Rattle.std.proofs.Common.{slice_get, refl, sym, ap, subst}
use Rattle.epx_types.proofs.Common.{list_any, option_map_or, cases_Bool, All-contains_itself}
use Rattle.epx_types.proofs.Common.{All-weaker, slice_get_within, IsRising, Instance, Placed}
use Rattle.epx_types.proofs.Common.{slice_get-from_Contains, Contains-slice_get, slice_get-from_map}
use Rattle.epx_types.proofs.Common.{Contains-nil, Contains-head, Contains-cons, Contains-cons_cases}
use Rattle.epx_types.proofs.Common.{Contains-filter, Contains-from_filter, Contains-flat_map}
use Rattle.epx_types.proofs.Common.{Contains-from_flat_map, slice_get-rising_is_unique}
use Rattle.epx_types.specs.declared.id.Id.{Id}
use Rattle.std.specs.Cmp.{first_so, second_so}
use Rattle.std.proofs.lemmas.List.Folds.{list_any_at}
use Rattle.epx_rows.specs.between.Rows.{row_of}
use Rattle.epx_types.proofs.lists.ListPositionLemmas.{slice_get-map}
use Rattle.epx_merge.specs.LogLines.{BadLineAt}
use Rattle.epx_compare.specs.declared.catalog.Catalog.{Catalog}
use Rattle.epx_versions.specs.LineVersions.{versions_of}
use Rattle.epx_versions.specs.SameInstances.{same_id, same_instance}
use Rattle.epx_compare.specs.MissingDeps.{depends_on}
use Rattle.epx_compare.specs.inner.Catalogs.{IsCatalogOf, version_ids}
use Rattle.epx_versions.specs.inner.EqualVersions.{same_id-decides, same_instance-equal}
use Rattle.epx_compare.specs.inner.MissingCounts.{is_missing, deps_at, deps_at_numbers}

-- ---- tests

-- two tests that imply each other have the same answer
pub Bool-from_iff : (a b : Bool) → (a ≡ true → b ≡ true) → (b ≡ true → a ≡ true) → a ≡ b
Bool-from_iff true true f g = refl
Bool-from_iff true false f g = sym (f refl)
Bool-from_iff false true f g = g refl
Bool-from_iff false false f g = refl

-- an element that passes
pub Contains-from_list_any : {X : Type 0} (p : X → Bool) (xs : List X) → list_any p xs ≡ true
    → (x : X) × Contains xs x × (p x ≡ true)
Contains-from_list_any p [] h = absurd (cc h)
Contains-from_list_any p (x ∷ xs) h =
    elim (cases_Bool (p x)) [
      | inl here ↦ (x, Contains-head x xs, here)
      | inr other ↦ let rest = Contains-from_list_any p xs (rw other at h) in
          (rest.0, Contains-cons x xs rest.0 rest.1, rest.2)
    ]

pub list_any-if_one_passes : {X : Type 0} (p : X → Bool) (xs : List X) (x : X) → Contains xs x
    → p x ≡ true → list_any p xs ≡ true
list_any-if_one_passes p xs x h passes = list_any_at p xs h.0 x h.1 (ap p h.2 ∙ passes)

-- the test whether an Id is in a list
pub list_any-same_id_flipped : (x : Id) (ids : List Id) → Contains ids x
    → list_any (λ d. same_id d x) ids ≡ true
list_any-same_id_flipped x ids h =
    list_any-if_one_passes (λ d. same_id d x) ids x h ((same_id-decides x x).1 refl)

pub Contains-from_same_id_flipped : (x : Id) (ids : List Id)
    → list_any (λ d. same_id d x) ids ≡ true → Contains ids x
Contains-from_same_id_flipped x ids h =
    let found = Contains-from_list_any (λ d. same_id d x) ids h in
    subst (Contains ids) ((same_id-decides found.0 x).0 found.2) found.1

pub list_any-same_id : (x : Id) (ids : List Id) → Contains ids x → list_any (same_id x) ids ≡ true
list_any-same_id x ids h = list_any-if_one_passes (same_id x) ids x h ((same_id-decides x x).1 refl)

pub Contains-from_same_id : (x : Id) (ids : List Id) → list_any (same_id x) ids ≡ true
    → Contains ids x
Contains-from_same_id x ids h =
    let found = Contains-from_list_any (same_id x) ids h in
    subst (Contains ids) (sym ((same_id-decides x found.0).0 found.2)) found.1

pub and-from_both : (a b : Bool) → a ≡ true → b ≡ true → (a && b) ≡ true
and-from_both a b p q = cc

-- lists with the same elements have the same dependencies
pub is_missing-same_elements : (ids deps more : List Id)
    → ((x : Id) → Contains deps x ↔ Contains more x)
    → (x : Id) → is_missing ids deps x ≡ is_missing ids more x
is_missing-same_elements ids deps more same x = ap (λ b. not (list_any (same_id x) ids) && b)
    (Bool-from_iff (list_any (λ d. same_id d x) deps) (list_any (λ d. same_id d x) more)
    (λ h. list_any-same_id_flipped x more ((same x).0 (Contains-from_same_id_flipped x deps h)))
    (λ h. list_any-same_id_flipped x deps ((same x).1 (Contains-from_same_id_flipped x more h))))

-- ---- lines and what they commit

-- a line commits each version
pub Contains-from_versions_of : (lines : List Placed) (e : Instance)
    → Contains (versions_of lines) e
    → (p : Placed) × Contains lines p × (p.instance ≡ e)
Contains-from_versions_of [] e h = absurd (Contains-nil e h)
Contains-from_versions_of (p ∷ lines) e h =
    let others = λ (d : Instance). not (same_instance p.instance d) in
    elim (Contains-cons_cases p.instance (filter others (versions_of lines)) e h) [
      | inl is ↦ (p, Contains-head p lines, is)
      | inr rest ↦
          let found = Contains-from_versions_of lines e
          (Contains-from_filter others (versions_of lines) e rest) in
          (found.0, Contains-cons p lines found.0 found.1, found.2)
    ]

-- each line commits a version
pub Contains-versions_of : (lines : List Placed) (p : Placed) → Contains lines p
    → Contains (versions_of lines) p.instance
Contains-versions_of [] p h = absurd (Contains-nil p h)
Contains-versions_of (q ∷ lines) p h =
    let others = λ (d : Instance). not (same_instance q.instance d) in
    let all : List Instance = q.instance ∷ filter others (versions_of lines) in
    let first : Contains all q.instance =
    Contains-head q.instance (filter others (versions_of lines)) in
    elim (Contains-cons_cases q lines p h) [
      | inl is ↦ subst (Contains all) (ap (λ (l : Placed). l.instance) is) first
      | inr rest ↦ elim (cases_Bool (same_instance q.instance p.instance)) [
        | inl same ↦ subst (Contains all) (same_instance-equal q.instance p.instance same) first
        | inr other ↦ Contains-cons q.instance (filter others (versions_of lines)) p.instance
            (Contains-filter others (versions_of lines) p.instance
            (Contains-versions_of lines p rest)
            (ap not other))
      ]
    ]

-- ---- positions

module _ (versions : List Instance) (n : ℕ) (x : Id) where
  -- a dependency of a version
  dep_at : (e : Instance) → slice_get versions n ≡ Some e → Contains e.deps x
      → Contains (deps_at versions n) x
  dep_at e is h =
      let P : Option Instance → Type 0 = λ o. Contains (option_map_or (λ d. d.deps) o []) x in
      subst P (sym is) h

  at_dep : (o : Option Instance) → slice_get versions n ≡ o
      → Contains (option_map_or (λ d. d.deps) o []) x
      → (e : Instance) × (slice_get versions n ≡ Some e) × Contains e.deps x
  at_dep None is h = absurd (Contains-nil x h)
  at_dep (Some e) is h = (e, is, h)

module _ (lines : List Placed) (bad : List BadLineAt) (c : Catalog)
    (catalogs : IsCatalogOf lines bad c) where
  -- the position of the instance of a version
  version_position : (n : ℕ) (e : Instance) → slice_get (versions_of lines) n ≡ Some e
      → (j : ℕ) × (slice_get c.positions.items n ≡ Some j) × (slice_get c.ids j ≡ Some e.id)
  version_position n e is =
      let id : slice_get (version_ids lines) n ≡ Some e.id =
      slice_get-map (λ (d : Instance). d.id) (versions_of lines) n e is in
      let some : slice_get (map (slice_get c.ids) c.positions.items) n ≡ Some (Some e.id) =
      ap (λ l. slice_get l n) catalogs.positions
      ∙ slice_get-map Some (version_ids lines) n e.id id in
      slice_get-from_map (slice_get c.ids) c.positions.items n (Some e.id) some

  -- the version at a position of an instance
  position_version : (n j : ℕ) → slice_get c.positions.items n ≡ Some j
      → (e : Instance) × (slice_get (versions_of lines) n ≡ Some e)
      × (slice_get c.ids j ≡ Some e.id)
  position_version n j is =
      let found : slice_get (map Some (version_ids lines)) n ≡ Some (slice_get c.ids j) =
      ap (λ l. slice_get l n) (sym catalogs.positions)
      ∙ slice_get-map (slice_get c.ids) c.positions.items n j is in
      let own = slice_get-from_map Some (version_ids lines) n (slice_get c.ids j) found in
      let version = slice_get-from_map (λ (d : Instance). d.id) (versions_of lines) n own.0
      own.1 in
      (version.0, version.1, sym own.2 ∙ ap Some (sym version.2))

  -- the numbers of an instance are of versions
  pub All-numbers_known : (k : ℕ)
      → All (λ n. n < length c.noted.versions.keys) (row_of c.versions k)
  All-numbers_known k = All-weaker (Contains (row_of c.versions k))
      (λ n. n < length c.noted.versions.keys)
      (λ n h. let version = position_version n k ((catalogs.versions.exact k n).0 h) in
      let within = slice_get_within (versions_of lines) n version.0 version.1 in
      subst (λ (l : List Instance). n < length l) (sym catalogs.noted.versions) within)
      (row_of c.versions k) (All-contains_itself (row_of c.versions k))

  module _ (rising : IsRising c.ids) (k : ℕ) (y : Id) (here : slice_get c.ids k ≡ Some y)
      (x : Id) where
    from_line : depends_on lines x y ≡ true
        → Contains (deps_at_numbers c.noted.versions.keys (row_of c.versions k)) x
    from_line h =
        let test = λ (p : Placed). same_id p.instance.id y
        && list_any (λ d. same_id d x) p.instance.deps in
        let found = Contains-from_list_any test lines h in
        let e = found.0.instance in
        let id : e.id ≡ y = (same_id-decides e.id y).0 (first_so (same_id e.id y) _ found.2) in
        let dep : Contains e.deps x =
        Contains-from_same_id_flipped x e.deps (second_so (same_id e.id y) _ found.2) in
        let at = slice_get-from_Contains (versions_of lines) e
        (Contains-versions_of lines found.0 found.1) in
        let position = version_position at.0 e at.1 in
        let same : position.0 ≡ k = slice_get-rising_is_unique c.ids rising position.0 k y
        (position.2 ∙ ap Some id) here in
        let number : Contains (row_of c.versions k) at.0 =
        (catalogs.versions.exact k at.0).1 (position.1 ∙ ap Some same) in
        let keys : slice_get c.noted.versions.keys at.0 ≡ Some e =
        ap (λ l. slice_get l at.0) catalogs.noted.versions ∙ at.1 in
        Contains-flat_map (deps_at c.noted.versions.keys) (row_of c.versions k) at.0 x number
        (dep_at c.noted.versions.keys at.0 x e keys dep)

    to_line : Contains (deps_at_numbers c.noted.versions.keys (row_of c.versions k)) x
        → depends_on lines x y ≡ true
    to_line h =
        let keys = c.noted.versions.keys in
        let found = Contains-from_flat_map (deps_at keys) (row_of c.versions k) x h in
        let n = found.0 in
        let own = at_dep keys n x (slice_get keys n) refl found.2 in
        let version = position_version n k ((catalogs.versions.exact k n).0 found.1) in
        let same : Some own.0 ≡ Some version.0 = sym own.1
        ∙ ap (λ l. slice_get l n) catalogs.noted.versions ∙ version.1 in
        let is : own.0 ≡ version.0 = cc same in
        let id : Some version.0.id ≡ Some y = sym version.2 ∙ here in
        let named : version.0.id ≡ y = cc id in
        let line = Contains-from_versions_of lines version.0
        (Contains-slice_get (versions_of lines) n version.0 version.1) in
        let e = line.0.instance in
        let whole : own.0 ≡ e = is ∙ sym line.2 in
        let dep : Contains e.deps x = subst (λ (d : Instance). Contains d.deps x) whole own.2 in
        let own_id : e.id ≡ y = ap (λ (d : Instance). d.id) line.2 ∙ named in
        list_any-if_one_passes
        (λ p. same_id p.instance.id y && list_any (λ d. same_id d x) p.instance.deps)
        lines line.0 line.1 (and-from_both (same_id e.id y) (list_any (λ d. same_id d x) e.deps)
        ((same_id-decides e.id y).1 own_id) (list_any-same_id_flipped x e.deps dep))

    -- an instance depends on x exactly where its versions do
    pub depends_on-by_numbers : depends_on lines x y
        ≡ list_any (λ d. same_id d x) (deps_at_numbers c.noted.versions.keys (row_of c.versions k))
    depends_on-by_numbers =
        let deps = deps_at_numbers c.noted.versions.keys (row_of c.versions k) in
        Bool-from_iff (depends_on lines x y) (list_any (λ d. same_id d x) deps)
        (λ h. list_any-same_id_flipped x deps (from_line h))
        (λ h. to_line (Contains-from_same_id_flipped x deps h))
