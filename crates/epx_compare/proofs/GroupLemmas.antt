-- The versions and the places of a catalog, by instance and by version.
use Rattle.std.proofs.Common.{◌≡◌, ◌∙◌, ◌+◌, ◌<◌, ◌==◌, ◌∷◌, ℕ, true, List, [], Option, Some, map}
use Rattle.std.proofs.Common.{filter, length, slice_get, slice_index_or, All, Contains, refl, sym}
use Rattle.std.proofs.Common.{ap, subst, arith}
use Rattle.std.proofs.lemmas.Bool.{eq-eqb}
use Rattle.epx_types.proofs.Common.{eqb-true, length-map, get_or_default, Contains-get_or, map-map}
use Rattle.epx_types.proofs.Common.{slice_get_within, get_or_from_slice_get, slice_get-from_map}
use Rattle.epx_types.proofs.Common.{map-agree, passes-from_filter, slice_get-rising_is_unique}
use Rattle.epx_types.proofs.Common.{IsRising, Instance, Placed}
use Rattle.epx_types.specs.declared.id.Id.{Id}
use Rattle.epx_types.proofs.lists.ListPositionLemmas.{slice_get-map}
use Rattle.epx_merge.specs.LogLines.{BadLineAt}
use Rattle.epx_rows.specs.between.PositionGroups.{AreGroupsOf}
use Rattle.epx_rows.specs.between.Rows.{row_of}
use Rattle.epx_compare.specs.declared.catalog.Catalog.{Catalog}
use Rattle.epx_versions.specs.declared.noted.NotedLine.{NotedLine}
use Rattle.epx_compare.specs.ComparisonLines.{group_data}
use Rattle.epx_compare.specs.Differences.{lines_of_id, places_of, groups_of}
use Rattle.epx_versions.specs.LineVersions.{versions_of}
use Rattle.epx_versions.specs.SameInstances.{same_id}
use Rattle.epx_compare.specs.inner.Catalogs.{IsCatalogOf, version_ids}
use Rattle.epx_versions.specs.inner.EqualVersions.{same_id-decides}
use Rattle.epx_compare.specs.inner.NumberedVersions.{version_at, place_at}
use Rattle.epx_compare.proofs.DifferenceLemmas.{versions_of-own, places_of-by_number, places_of-own}
use Rattle.epx_compare.proofs.PositionLemmas.{map-passing}

-- ---- values at positions

-- the values at positions, also read with a default
pub map-slice_index_or : {X : Type 0} (xs : List X) (d : X) (ps : List ℕ) (ys : List X)
    → map (slice_get xs) ps ≡ map Some ys → map (λ p. slice_index_or xs p d) ps ≡ ys
map-slice_index_or xs d [] [] h = refl
map-slice_index_or xs d [] (y ∷ ys) h = absurd (cc)
map-slice_index_or xs d (p ∷ ps) [] h = absurd (cc)
map-slice_index_or xs d (p ∷ ps) (y ∷ ys) h =
    let front : slice_get xs p ≡ Some y = cc in
    let rest : map (slice_get xs) ps ≡ map Some ys = cc in
    let first = get_or_from_slice_get xs p y d front in
    let later = map-slice_index_or xs d ps ys rest in
    λ i. first i ∷ later i

-- what two functions say of the values
pub map-at_positions : {X Y : Type 0} (xs : List X) (f : ℕ → Y) (g : X → Y)
    → ((p : ℕ) (x : X) → slice_get xs p ≡ Some x → f p ≡ g x) → (ps : List ℕ) (ys : List X)
    → map (slice_get xs) ps ≡ map Some ys → map f ps ≡ map g ys
map-at_positions xs f g same [] [] h = refl
map-at_positions xs f g same [] (y ∷ ys) h = absurd (cc)
map-at_positions xs f g same (p ∷ ps) [] h = absurd (cc)
map-at_positions xs f g same (p ∷ ps) (y ∷ ys) h =
    let front : slice_get xs p ≡ Some y = cc in
    let rest : map (slice_get xs) ps ≡ map Some ys = cc in
    let first = same p y front in
    let later = map-at_positions xs f g same ps ys rest in
    λ i. first i ∷ later i

-- the positions of each group are within the list
pub All-groups_within : (numbers : List ℕ) (groups : List (List ℕ)) → AreGroupsOf numbers groups
    → (j : ℕ) → All (λ p. p < length numbers) (row_of groups j)
All-groups_within numbers groups are j k d within =
    let p = slice_index_or (row_of groups j) k d in
    slice_get_within numbers p j ((are.exact j p).0 (Contains-get_or (row_of groups j) k d within))

-- ---- rows of a version

pub map-rows_of_version : (rows : List NotedLine) (groups : List (List ℕ))
    → AreGroupsOf (map (λ r. r.version) rows) groups → (v : ℕ)
    → map (slice_get rows) (row_of groups v) ≡ map Some (filter (λ r. r.version == v) rows)
map-rows_of_version rows groups are v =
    map-passing (slice_get rows) (λ r. r.version == v) rows
    0 (row_of groups v)
    (λ i. let e : 0 + i ≡ i = omega arith in ap (slice_get rows) e) (record {
      rising = are.rising v;
      only = λ p among.
          let found = slice_get-from_map (λ r. r.version) rows p v ((are.exact v p).0 among) in
          let n = found.2 in
          ((omega arith), (found.0, found.1, eq-eqb found.0.version v n));
      whole = λ p r from at_p same.
          let n = eqb-true r.version v same in
          (are.exact v p).1 (slice_get-map (λ r. r.version) rows p r at_p ∙ ap Some n);
    })

-- the places of the rows of a version are those of the lines that commit it
pub map-place_at : (lines : List Placed) (bad : List BadLineAt) (c : Catalog)
    → IsCatalogOf lines bad c → (v : ℕ) (e : Instance) → slice_get (versions_of lines) v ≡ Some e
    → map (place_at c.noted.rows.items) (row_of c.lines v) ≡ places_of lines e
map-place_at lines bad c catalog v e at =
    let rows : List NotedLine = c.noted.rows.items in
    let own : List NotedLine = filter (λ r. r.version == v) rows in
    let nothing : NotedLine = record { place = record { log = 0; line = 0 }; version = 0 } in
    map-at_positions rows (place_at rows) (λ r. r.place)
    (λ p r here. ap (λ r. r.place) (get_or_from_slice_get rows p r nothing here))
    (row_of c.lines v) own (map-rows_of_version rows c.lines catalog.rows v)
    ∙ places_of-by_number lines v e at rows lines catalog.noted.rows

-- ---- versions of an instance

module _ (lines : List Placed) (bad : List BadLineAt) (c : Catalog)
    (catalog : IsCatalogOf lines bad c) where
  -- the instance of a version, by the position that the catalog has
  at_version : (p : ℕ) → slice_get (map (slice_get c.ids) c.positions.items) p
      ≡ slice_get (map Some (version_ids lines)) p
  at_version p = ap (λ xs. slice_get xs p) catalog.positions

  of_instance : (k : ℕ) (x : Id) → slice_get c.ids k ≡ Some x → (p : ℕ)
      → slice_get c.positions.items p ≡ Some k
      → (e : Instance) × (slice_get (versions_of lines) p ≡ Some e) × (same_id e.id x ≡ true)
  of_instance k x at p here =
      let some : slice_get (map Some (version_ids lines)) p ≡ Some (Some x) =
      sym (at_version p) ∙ (slice_get-map (slice_get c.ids) c.positions.items p k here
      ∙ ap Some at) in
      let id = slice_get-from_map Some (version_ids lines) p (Some x) some in
      let found = slice_get-from_map (λ e. e.id) (versions_of lines) p id.0 id.1 in
      let inner : id.0 ≡ x = (let e = id.2 in cc) in
      (found.0, found.1, (same_id-decides found.0.id x).1 (found.2 ∙ inner))

  is_listed : IsRising c.ids → (k : ℕ) (x : Id) → slice_get c.ids k ≡ Some x → (p : ℕ)
      (e : Instance) → slice_get (versions_of lines) p ≡ Some e → same_id e.id x ≡ true
      → slice_get c.positions.items p ≡ Some k
  is_listed rising k x at p e here own =
      let id : e.id ≡ x = (same_id-decides e.id x).0 own in
      let listed = slice_get-map (λ d. d.id) (versions_of lines) p e here ∙ ap Some id in
      let some : slice_get (map (slice_get c.ids) c.positions.items) p ≡ Some (Some x) =
      at_version p ∙ slice_get-map Some (version_ids lines) p x listed in
      let found = slice_get-from_map (slice_get c.ids) c.positions.items p (Some x) some in
      found.1 ∙ ap Some (slice_get-rising_is_unique c.ids rising found.0 k x found.2 at)

  -- the numbers of an instance's versions
  pub map-numbers_of_id : IsRising c.ids → (k : ℕ) (x : Id) → slice_get c.ids k ≡ Some x
      → map (slice_get (versions_of lines)) (row_of c.versions k)
      ≡ map Some (versions_of (lines_of_id lines x))
  map-numbers_of_id rising k x at =
      map-passing (slice_get (versions_of lines)) (λ e. same_id e.id x) (versions_of lines) 0
      (row_of c.versions k)
      (λ i. let e : 0 + i ≡ i = omega arith in ap (slice_get (versions_of lines)) e) (record {
        rising = catalog.versions.rising k;
        only = λ p among. (
          (omega arith),
          of_instance k x at p ((catalog.versions.exact k p).0 among),
        );
        whole = λ p e from here own.
            (catalog.versions.exact k p).1 (is_listed rising k x at p e here own);
      })
      ∙ ap (map Some) (sym (versions_of-own lines x))

  -- the groups of an instance's lines
  pub map-group_data : IsRising c.ids → (k : ℕ) (x : Id) → slice_get c.ids k ≡ Some x
      → map (λ v. group_data (map (place_at c.noted.rows.items) (row_of c.lines v)))
      (row_of c.versions k) ≡ map group_data (groups_of (lines_of_id lines x))
  map-group_data rising k x at =
      let own = lines_of_id lines x in
      map-at_positions (versions_of lines)
      (λ v. group_data (map (place_at c.noted.rows.items) (row_of c.lines v)))
      (λ e. group_data (places_of lines e))
      (λ v e here. ap group_data (map-place_at lines bad c catalog v e here))
      (row_of c.versions k) (versions_of own) (map-numbers_of_id rising k x at)
      ∙ (map-agree (λ e. group_data (places_of lines e)) (λ e. group_data (places_of own e))
      (versions_of own) (λ e among. ap group_data (sym (places_of-own lines x e
      (passes-from_filter (λ d. same_id d.id x) (versions_of lines) e
      (subst (λ es. Contains es e) (versions_of-own lines x) among)))))
      ∙ sym (map-map group_data (places_of own) (versions_of own)))

  -- the versions with these numbers
  pub map-version_at : IsRising c.ids → (k : ℕ) (x : Id) → slice_get c.ids k ≡ Some x
      → map (version_at c.noted.versions.keys) (row_of c.versions k)
      ≡ versions_of (lines_of_id lines x)
  map-version_at rising k x at =
      let nothing : Instance = record {
        id = record { replica = 0; number = 0 };
        seq = 0;
        deps = [];
        ops = [];
      } in
      ap (λ es. map (version_at es) (row_of c.versions k)) catalog.noted.versions
      ∙ map-slice_index_or (versions_of lines) nothing (row_of c.versions k)
      (versions_of (lines_of_id lines x)) (map-numbers_of_id rising k x at)

  positions_long : length c.positions.items ≡ length (versions_of lines)
  positions_long =
      let same = ap length catalog.positions in
      let left = length-map c.positions.items (slice_get c.ids) in
      let right = length-map {B = Option Id} (version_ids lines) Some in
      let ids = length-map (versions_of lines) (λ e. e.id) in
      cc

  pub All-numbers_within : (k : ℕ) → All (λ v. v < length (versions_of lines)) (row_of c.versions k)
  All-numbers_within k = subst (λ n. All (λ v. v < n) (row_of c.versions k)) positions_long
      (All-groups_within c.positions.items c.versions catalog.versions k)

  pub All-rows_within : All (All (λ index. index < length c.noted.rows.items)) c.lines
  All-rows_within v d within =
      let row : slice_index_or c.lines v d ≡ row_of c.lines v =
      get_or_default c.lines v d [] within in
      subst (All (λ index. index < length c.noted.rows.items)) (sym row)
      (subst (λ n. All (λ index. index < n) (row_of c.lines v))
      (length-map c.noted.rows.items (λ r. r.version))
      (All-groups_within (map (λ r. r.version) c.noted.rows.items) c.lines catalog.rows v))
