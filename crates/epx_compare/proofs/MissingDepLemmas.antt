-- The entries of sorted counts: the dependencies that no line commits, and their dependents.
use Rattle.std.proofs.Common.{◌≡◌, ◌∙◌, inl, inr, ℕ, ◌+◌, ◌<◌, zero, suc, Bool, true, false, not}
use Rattle.std.proofs.Common.{◌&&◌, ◌++◌, cond, List, [], ◌∷◌, length, flat_map, get_or, Contains}
use Rattle.std.proofs.Common.{Some, refl, sym, ap, subst, arith, true≢false, is_lt, count_by}
use Rattle.std.specs.Cmp.{first_so, second_so}
use Rattle.epx_types.proofs.Common.{list_any, IsDistinct, IsSorted, keys_of, cases_Bool, sorted_far}
use Rattle.epx_types.proofs.Common.{ranks_by, sum_by-cons, AllPairs-from_IsDistinct, Below}
use Rattle.epx_types.proofs.Common.{IsRising, id_cmp, Instance, Placed, id_cmp-IsTotalOrder}
use Rattle.epx_types.proofs.Common.{id_cmp-IsAntisymmetric, Contains-head, Contains-cons}
use Rattle.epx_types.proofs.Common.{Contains-map, Contains-from_map, IsRising-from_neighbours}
use Rattle.epx_types.proofs.Common.{is_lt-cases, id_eq-Decides}
use Rattle.epx_types.specs.declared.id.Id.{Id}
use Rattle.std.proofs.lemmas.Bool.{not-true}
use Rattle.std.proofs.lemmas.List.Concat.{flat_map-cons}
use Rattle.std.proofs.lemmas.List.Folds.{flat_map-map}
use Rattle.std.proofs.lemmas.Map.Views.{Contains-from_lookup, lookup-from_Contains}
use Rattle.epx_types.specs.contracts.id.IdPartialEq.TheImpl as id_eq
use Rattle.epx_merge.specs.LogLines.{BadLineAt}
use Rattle.epx_report.specs.ReportLines.{line_of}
use Rattle.epx_compare.specs.ComparisonLines.{missing_count_data}
use Rattle.epx_compare.specs.Comparisons.{missing_counts_text}
use Rattle.epx_compare.specs.declared.catalog.Catalog.{Catalog}
use Rattle.epx_versions.specs.LineVersions.{versions_of}
use Rattle.epx_versions.specs.SameInstances.{same_id}
use Rattle.epx_compare.specs.MissingDeps.{depends_on, dependents_of, AreMissingDeps}
use Rattle.epx_compare.specs.inner.Catalogs.{IsCatalogOf}
use Rattle.epx_versions.specs.inner.EqualVersions.{same_id-decides}
use Rattle.epx_compare.specs.inner.MissingCounts.{stored, AreCounts, missing_count}
use Rattle.epx_compare.proofs.DependencyLemmas.{Contains-from_list_any, list_any-if_one_passes}
use Rattle.epx_compare.proofs.DependencyLemmas.{Contains-from_same_id_flipped}
use Rattle.epx_compare.proofs.DependencyLemmas.{list_any-same_id_flipped}
use Rattle.epx_compare.proofs.DependencyLemmas.{list_any-same_id, Contains-from_same_id}
use Rattle.epx_compare.proofs.DependencyLemmas.{and-from_both, Contains-versions_of}
use Rattle.epx_compare.proofs.MissingCountLemmas.{IsEquivalence-id_eq}

-- ---- counts that are not zero

module _ {X : Type 0} (p : X → Bool) where
  count_with : (x : X) (xs : List X) (b : Bool) → p x ≡ b
      → count_by p (x ∷ xs) ≡ cond b 1 0 + count_by p xs
  count_with x xs b h = sum_by-cons (λ y. cond (p y) 1 0) x xs
      ∙ ap (λ t. cond t 1 0 + count_by p xs) h

  some_counted : (xs : List X) → list_any p xs ≡ true → 0 < count_by p xs
  some_counted [] h = absurd (cc h)
  some_counted (x ∷ xs) h =
      elim (cases_Bool (p x)) [
        | inl here ↦ let e : count_by p (x ∷ xs) ≡ 1 + count_by p xs = count_with x xs true here in
            omega arith
        | inr other ↦
            let e : count_by p (x ∷ xs) ≡ 0 + count_by p xs = count_with x xs false other in
            let rest = some_counted xs (rw other at h) in
            omega arith
      ]

  counted_some : (xs : List X) → 0 < count_by p xs → list_any p xs ≡ true
  counted_some [] h = absurd (omega arith)
  counted_some (x ∷ xs) h =
      elim (cases_Bool (p x)) [
        | inl here ↦ rw here refl
        | inr other ↦
            let e : count_by p (x ∷ xs) ≡ 0 + count_by p xs = count_with x xs false other in
            let rest : 0 < count_by p xs = omega arith in
            rw other (counted_some xs rest)
      ]

stored_some : (m n : ℕ) → stored m ≡ Some n → (m ≡ n) × (0 < m)
stored_some zero n h = absurd (cc h)
stored_some (suc m) n h = (cc h, omega arith)

some_stored : (m : ℕ) → 0 < m → stored m ≡ Some m
some_stored zero h = absurd (omega arith)
some_stored (suc m) h = refl

-- ---- sorted keys

not_below : (xs : List Id) → IsSorted id_cmp xs → (i j : ℕ) (d : Id) → i < j → j < length xs
    → ¬ Below (get_or xs j d) (get_or xs i d)
not_below xs sorted i j d l within below =
    true≢false (sym below ∙ sorted_far (λ x y. is_lt (id_cmp x y))
    (ranks_by id_cmp-IsTotalOrder (λ (x : Id). x)) xs sorted i j d (omega arith) within)

-- sorted keys rise if no two are equal
rising_keys : (xs : List Id) → IsSorted id_cmp xs → IsDistinct id_eq.eq-value.it xs
    → IsRising xs
rising_keys xs sorted distinct =
    IsRising-from_neighbours xs (λ k d within.
    elim (is_lt-cases id_cmp-IsTotalOrder id_cmp-IsAntisymmetric (get_or xs k d)
    (get_or xs (k + 1) d)) [
      | inl below ↦ below
      | inr (inl same) ↦ absurd
          (AllPairs-from_IsDistinct {eq = id_eq.eq-value.it} id_eq-Decides xs distinct k (k + 1) d
          (omega arith) within same)
      | inr (inr above) ↦ absurd (not_below xs sorted k (k + 1) d (omega arith) within above)
    ])

flat_map-agree : {X A : Type 0} (f g : X → List A) (xs : List X)
    → ((x : X) → Contains xs x → f x ≡ g x) → flat_map f xs ≡ flat_map g xs
flat_map-agree f g [] same = refl
flat_map-agree f g (x ∷ xs) same =
    let first = same x (Contains-head x xs) in
    let rest = flat_map-agree f g xs (λ y h. same y (Contains-cons x xs y h)) in
    flat_map-cons f x xs ∙ ((λ i. first i ++ rest i) ∙ sym (flat_map-cons g x xs))

-- ---- the entries

module _ (lines : List Placed) (bad : List BadLineAt) (c : Catalog)
    (catalogs : IsCatalogOf lines bad c) (es : List (Id × ℕ))
    (counts : AreCounts (missing_count lines c.ids c.ids) es)
    (distinct : IsDistinct id_eq.eq-value.it (keys_of es)) where
  abbrev needs : Id → Id → Bool
  needs x y = not (list_any (same_id x) c.ids) && depends_on lines x y

  entry_count : (x : Id) (n : ℕ) → Contains es (x, n)
      → (missing_count lines c.ids c.ids x ≡ n) × (0 < missing_count lines c.ids c.ids x)
  entry_count x n h = stored_some (missing_count lines c.ids c.ids x) n
      (sym (counts x)
      ∙ lookup-from_Contains {eq = id_eq.eq-value.it} IsEquivalence-id_eq x n es distinct h)

  -- an instance that needs the Id of an entry
  dependent : (x : Id) (n : ℕ) → Contains es (x, n)
      → (y : Id) × Contains c.ids y × (needs x y ≡ true)
  dependent x n h = Contains-from_list_any (needs x) c.ids
      (counted_some (needs x) c.ids (entry_count x n h).1)

  not_committed : (x : Id) (n : ℕ) → Contains es (x, n)
      → list_any (same_id x) c.ids ≡ false
  not_committed x n h = let found = dependent x n h in
      not-true (list_any (same_id x) c.ids)
      (first_so (not (list_any (same_id x) c.ids)) (depends_on lines x found.0) found.2)

  entry_missing : (x : Id) (n : ℕ) → Contains es (x, n)
      → ((p : Placed) × Contains lines p × Contains p.instance.deps x) × ¬ Contains c.ids x
  entry_missing x n h =
      let found = dependent x n h in
      let test = second_so (not (list_any (same_id x) c.ids)) (depends_on lines x found.0)
      found.2 in
      let line = Contains-from_list_any (λ p. same_id p.instance.id found.0
      && list_any (λ d. same_id d x) p.instance.deps) lines test in
      let dep = second_so (same_id line.0.instance.id found.0)
      (list_any (λ d. same_id d x) line.0.instance.deps) line.2 in (
        (line.0, line.1, Contains-from_same_id_flipped x line.0.instance.deps dep),
        λ among. true≢false (sym (list_any-same_id x c.ids among) ∙ not_committed x n h),
      )

  missing_entry : (x : Id) (p : Placed) → Contains lines p → Contains p.instance.deps x
      → ¬ Contains c.ids x → Contains (keys_of es) x
  missing_entry x p line dep none =
      let y = p.instance.id in
      let among : Contains c.ids y = (catalogs.named y).1
      (Contains-map (λ (e : Instance). e.id) (versions_of lines) p.instance
      (Contains-versions_of lines p line)) in
      let depends : depends_on lines x y ≡ true =
      list_any-if_one_passes (λ q. same_id q.instance.id y
      && list_any (λ d. same_id d x) q.instance.deps) lines p line
      (and-from_both (same_id y y) (list_any (λ d. same_id d x) p.instance.deps)
      ((same_id-decides y y).1 refl) (list_any-same_id_flipped x p.instance.deps dep)) in
      let missing : list_any (same_id x) c.ids ≡ false =
      elim (cases_Bool (list_any (same_id x) c.ids)) [
        | inl has ↦ absurd (none (Contains-from_same_id x c.ids has))
        | inr not_has ↦ not_has
      ] in
      let test : needs x y ≡ true = and-from_both (not (list_any (same_id x) c.ids))
      (depends_on lines x y) (ap not missing) depends in
      let n = missing_count lines c.ids c.ids x in
      let some =
      some_counted (needs x) c.ids (list_any-if_one_passes (needs x) c.ids y among test) in
      let entry : Contains es (x, n) = Contains-from_lookup {eq = id_eq.eq-value.it}
      (λ v w t. (id_eq-Decides v w).0 t) x n es (counts x ∙ some_stored n some) in
      Contains-map (λ (e : Id × ℕ). e.0) es (x, n) entry

  pub AreMissingDeps-entries : IsSorted id_cmp (keys_of es)
      → AreMissingDeps lines c.ids (keys_of es)
  AreMissingDeps-entries sorted = record {
    rising = rising_keys (keys_of es) sorted distinct;
    each = λ x. (
      λ h. let found = Contains-from_map (λ (e : Id × ℕ). e.0) es x h in
          let P : Id → Type 0 = λ y. ((p : Placed) × Contains lines p
          × Contains p.instance.deps y) × ¬ Contains c.ids y in
          subst P found.2 (entry_missing found.0.0 found.0.1 found.1),
      λ h. missing_entry x h.0.0 h.0.1 h.0.2 h.1,
    );
  }

  entry_line : (e : Id × ℕ) → Contains es e → line_of (missing_count_data e.0 e.1)
      ≡ line_of (missing_count_data e.0 (dependents_of lines c.ids e.0))
  entry_line e h = ap (λ n. line_of (missing_count_data e.0 n))
      (sym (entry_count e.0 e.1 h).0
      ∙ ap (λ b. count_by (λ y. not b && depends_on lines e.0 y) c.ids)
      (not_committed e.0 e.1 h))

  pub flat_map-missing_counts : flat_map (λ e. line_of (missing_count_data e.0 e.1)) es
      ≡ missing_counts_text lines c.ids (keys_of es)
  flat_map-missing_counts =
      let line : Id → List ℕ = λ x. line_of (missing_count_data x (dependents_of lines c.ids x)) in
      flat_map-agree (λ e. line_of (missing_count_data e.0 e.1)) (λ e. line e.0) es entry_line
      ∙ sym (flat_map-map line (λ (e : Id × ℕ). e.0) es)
