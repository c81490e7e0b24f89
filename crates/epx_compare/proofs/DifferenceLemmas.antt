-- The versions of an instance, and the places of the lines of each.
use Rattle.std.proofs.Common.{◌≡◌, ◌∙◌, ◌==◌, ℕ, Bool, true, false, cond, not, List, [], ◌∷◌, Some}
use Rattle.std.proofs.Common.{map, filter, slice_get, refl, sym, ap, arith, inl, inr, AllPairs}
use Rattle.std.proofs.lemmas.Bool.{eq-eqb}
use Rattle.epx_types.proofs.Common.{AllZip, cases_lt, eqb-true, AllPairs-filter}
use Rattle.epx_types.proofs.Common.{AllPairs-slice_get, AllPairs-from_parts, passes-from_filter}
use Rattle.epx_types.proofs.Common.{Instance, Placed}
use Rattle.epx_types.specs.declared.id.Id.{Id}
use Rattle.std.proofs.lemmas.Bool.{not-true}
use Rattle.epx_compare.specs.Differences.{lines_of_id, places_of}
use Rattle.epx_versions.specs.LineVersions.{versions_of}
use Rattle.epx_versions.specs.SameInstances.{same_id, same_instance}
use Rattle.epx_versions.specs.declared.noted.NotedLine.{NotedLine}
use Rattle.epx_versions.specs.inner.EqualVersions.{same_instance-equal, same_instance-decides}
use Rattle.epx_versions.specs.between.NotedRows.{IsRowOf}

-- ---- filters

pub filter-within : {X : Type 0} (p q : X → Bool) → ((x : X) → q x ≡ true → p x ≡ true)
    → (xs : List X) → filter q (filter p xs) ≡ filter q xs
filter-within p q implies [] = refl
filter-within {X} p q implies (x ∷ xs) =
    by p q x xs (filter-within p q implies xs) (p x) (q x) refl refl (implies x) where
      by : (p q : X → Bool) (x : X) (xs : List X) → filter q (filter p xs) ≡ filter q xs
          → (b c : Bool) → p x ≡ b → q x ≡ c → (q x ≡ true → p x ≡ true)
          → filter q (cond b (x ∷ filter p xs) (filter p xs))
          ≡ cond c (x ∷ filter q xs) (filter q xs)
      by p q x xs rest true c at_p at_q h =
          ap (λ t. cond t (x ∷ filter q (filter p xs)) (filter q (filter p xs))) at_q
          ∙ ap (λ ys. cond c (x ∷ ys) ys) rest
      by p q x xs rest false true at_p at_q h = absurd (let e = h at_q in cc)
      by p q x xs rest false false at_p at_q h = rest

pub filter-swap : {X : Type 0} (p q : X → Bool) (xs : List X)
    → filter q (filter p xs) ≡ filter p (filter q xs)
filter-swap p q [] = refl
filter-swap {X} p q (x ∷ xs) = by p q x xs (filter-swap p q xs) (p x) (q x) refl refl where
  by : (p q : X → Bool) (x : X) (xs : List X) → filter q (filter p xs) ≡ filter p (filter q xs)
      → (b c : Bool) → p x ≡ b → q x ≡ c
      → filter q (cond b (x ∷ filter p xs) (filter p xs))
      ≡ filter p (cond c (x ∷ filter q xs) (filter q xs))
  by p q x xs rest true true at_p at_q =
      ap (λ t. cond t (x ∷ filter q (filter p xs)) (filter q (filter p xs))) at_q
      ∙ (ap (λ ys. x ∷ ys) rest
      ∙ sym (ap (λ t. cond t (x ∷ filter p (filter q xs)) (filter p (filter q xs))) at_p))
  by p q x xs rest true false at_p at_q =
      ap (λ t. cond t (x ∷ filter q (filter p xs)) (filter q (filter p xs))) at_q ∙ rest
  by p q x xs rest false true at_p at_q =
      rest ∙ sym (ap (λ t. cond t (x ∷ filter p (filter q xs)) (filter p (filter q xs))) at_p)
  by p q x xs rest false false at_p at_q = rest

-- ---- versions

not_same : (a e : Instance) (x : Id) → same_id a.id x ≡ false → same_id e.id x ≡ true
    → not (same_instance a e) ≡ true
not_same a e x other own = by (same_instance a e) refl where
  by : (b : Bool) → same_instance a e ≡ b → not b ≡ true
  by true same =
      let equal = same_instance-equal a e same in
      let moved : same_id a.id x ≡ true = ap (λ d. same_id d.id x) equal ∙ own in
      absurd (cc)
  by false same = refl

-- the versions of the lines of an instance are those of its Id
pub versions_of-own : (lines : List Placed) (x : Id)
    → versions_of (lines_of_id lines x) ≡ filter (λ e. same_id e.id x) (versions_of lines)
versions_of-own [] x = refl
versions_of-own (p ∷ lines) x =
    by p lines x (versions_of-own lines x) (same_id p.instance.id x) refl where
      by : (p : Placed) (lines : List Placed) (x : Id)
          → versions_of (lines_of_id lines x) ≡ filter (λ e. same_id e.id x) (versions_of lines)
          → (b : Bool) → same_id p.instance.id x ≡ b
          → versions_of (cond b (p ∷ lines_of_id lines x) (lines_of_id lines x))
          ≡ cond b (p.instance ∷ filter (λ e. same_id e.id x)
          (filter (λ e. not (same_instance p.instance e)) (versions_of lines)))
          (filter (λ e. same_id e.id x)
          (filter (λ e. not (same_instance p.instance e)) (versions_of lines)))
      by p lines x rest true own =
          ap (λ es. p.instance ∷ es) (ap (filter (λ e. not (same_instance p.instance e))) rest
          ∙ filter-swap (λ e. same_id e.id x) (λ e. not (same_instance p.instance e))
          (versions_of lines))
      by p lines x rest false other =
          rest ∙ sym (filter-within (λ e. not (same_instance p.instance e)) (λ e. same_id e.id x)
          (λ e. not_same p.instance e x other) (versions_of lines))

-- no two versions are the same
versions_differ : (lines : List Placed) → AllPairs (λ d e. same_instance d e ≡ false)
    (versions_of lines)
versions_differ [] = λ i j d l k. absurd (omega arith)
versions_differ (p ∷ lines) =
    let other = λ (e : Instance). not (same_instance p.instance e) in
    AllPairs-from_parts (λ d e. same_instance d e ≡ false) p.instance
    (filter other (versions_of lines))
    (λ e among. not-true (same_instance p.instance e)
    (passes-from_filter other (versions_of lines) e among))
    (AllPairs-filter (λ d e. same_instance d e ≡ false) other (versions_of lines)
    (versions_differ lines))

-- a version has one number
pub versions_of-number_is_unique : (lines : List Placed) (i j : ℕ) (e : Instance)
    → slice_get (versions_of lines) i ≡ Some e → slice_get (versions_of lines) j ≡ Some e → i ≡ j
versions_of-number_is_unique lines i j e at_i at_j =
    let same = (same_instance-decides e e).1 refl in
    elim (cases_lt i j) [
      | inl less ↦
          let no = AllPairs-slice_get (λ d e. same_instance d e ≡ false) (versions_of lines)
          (versions_differ lines) i j e e less at_i at_j in
          absurd (cc)
      | inr upto ↦ elim (cases_lt j i) [
        | inl less ↦
            let no = AllPairs-slice_get (λ d e. same_instance d e ≡ false) (versions_of lines)
            (versions_differ lines) j i e e less at_j at_i in
            absurd (cc)
        | inr other ↦ (omega arith)
      ]
    ]

-- ---- places

-- the rows of a version have the places of its lines
pub places_of-by_number : (lines : List Placed) (v : ℕ) (e : Instance)
    → slice_get (versions_of lines) v ≡ Some e → (rows : List NotedLine) (some : List Placed)
    → AllZip (IsRowOf (versions_of lines)) rows some
    → map (λ r. r.place) (filter (λ r. r.version == v) rows) ≡ places_of some e
places_of-by_number lines v e at [] [] rel = refl
places_of-by_number lines v e at [] (p ∷ some) rel = absurd rel
places_of-by_number lines v e at (row ∷ rows) [] rel = absurd rel
places_of-by_number lines v e at (row ∷ rows) (p ∷ some) rel =
    by lines v e at row rows p some rel.0 (places_of-by_number lines v e at rows some rel.1)
    (row.version == v) (same_instance e p.instance) refl refl where
      by : (lines : List Placed) (v : ℕ) (e : Instance) → slice_get (versions_of lines) v ≡ Some e
          → (row : NotedLine) (rows : List NotedLine) (p : Placed) (some : List Placed)
          → IsRowOf (versions_of lines) row p
          → map (λ r. r.place) (filter (λ r. r.version == v) rows) ≡ places_of some e
          → (b c : Bool) → (row.version == v) ≡ b → same_instance e p.instance ≡ c
          → map (λ r. r.place) (cond b (row ∷ filter (λ r. r.version == v) rows)
          (filter (λ r. r.version == v) rows))
          ≡ map (λ q. q.place) (cond c (p ∷ filter (λ q. same_instance e q.instance) some)
          (filter (λ q. same_instance e q.instance) some))
      by lines v e at row rows p some rel rest true true number same =
          λ i. rel.place i ∷ rest i
      by lines v e at row rows p some rel rest false false number same = rest
      by lines v e at row rows p some rel rest true false number same =
          let n = eqb-true row.version v number in
          let here = ap (slice_get (versions_of lines)) n in
          let found = rel.version in
          let equal : e ≡ p.instance = cc in
          let yes = (same_instance-decides e p.instance).1 equal in
          absurd (cc)
      by lines v e at row rows p some rel rest false true number same =
          let equal = same_instance-equal e p.instance same in
          let n = versions_of-number_is_unique lines row.version v e
          (rel.version ∙ ap Some (sym equal)) at in
          let yes = eq-eqb row.version v n in
          absurd (cc)

-- the lines of an instance have all the places of its versions
pub places_of-own : (lines : List Placed) (x : Id) (e : Instance) → same_id e.id x ≡ true
    → places_of (lines_of_id lines x) e ≡ places_of lines e
places_of-own lines x e own =
    ap (map (λ p. p.place)) (filter-within (λ p. same_id p.instance.id x)
    (λ p. same_instance e p.instance)
    (λ p same. ap (λ d. same_id d.id x) (sym (same_instance-equal e p.instance same)) ∙ own)
    lines)
