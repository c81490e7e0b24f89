-- The numbers by which a catalog groups versions and rows are within their bounds.
use Rattle.std.proofs.Common.{◌≡◌, ℕ, ◌<◌, List, [], ◌∷◌, length, map, All, Some, slice_get, suc}
use Rattle.std.proofs.Common.{refl, ap}
use Rattle.epx_types.proofs.Common.{AllByRecursion, AllZip, All-from_recursion, slice_get_within}
use Rattle.epx_types.proofs.Common.{Instance, Placed}
use Rattle.epx_types.specs.declared.id.Id.{Id}
use Rattle.epx_versions.specs.declared.noted.NotedLine.{NotedLine}
use Rattle.epx_versions.specs.between.NotedRows.{IsRowOf}

module _ (ids : List Id) where
  each_within : (ks : List ℕ) (xs : List Id) → map (slice_get ids) ks ≡ map Some xs
      → AllByRecursion (λ j. j < length ids) ks
  each_within [] xs same = tt
  each_within (k ∷ ks) [] same = absurd (cc same)
  each_within (k ∷ ks) (x ∷ xs) same =
      let here : slice_get ids k ≡ Some x = cc same in
      let rest : map (slice_get ids) ks ≡ map Some xs = cc same in
      (slice_get_within ids k x here, each_within ks xs rest)

  -- positions at which there are Ids
  pub All-positions_within : (ks : List ℕ) (xs : List Id) → map (slice_get ids) ks ≡ map Some xs
      → All (λ j. j < length ids) ks
  All-positions_within ks xs same = All-from_recursion _ ks (each_within ks xs same)

  -- a position for each Id
  pub length-positions : (ks : List ℕ) (xs : List Id) → map (slice_get ids) ks ≡ map Some xs
      → length ks ≡ length xs
  length-positions [] [] same = refl
  length-positions [] (x ∷ xs) same = absurd (cc same)
  length-positions (k ∷ ks) [] same = absurd (cc same)
  length-positions (k ∷ ks) (x ∷ xs) same =
      let rest : map (slice_get ids) ks ≡ map Some xs =
      cc same in ap suc (length-positions ks xs rest)

module _ (versions : List Instance) where
  each_named : (rows : List NotedLine) (lines : List Placed) → AllZip (IsRowOf versions) rows lines
      → AllByRecursion (λ r. r.version < length versions) rows
  each_named [] lines rel = tt
  each_named (row ∷ rows) [] rel = absurd rel
  each_named (row ∷ rows) (p ∷ lines) rel = (
    slice_get_within versions row.version p.instance rel.0.version,
    each_named rows lines rel.1,
  )

  -- each row names a version
  pub version-within : (rows : List NotedLine) (lines : List Placed)
      → AllZip (IsRowOf versions) rows lines
      → All (λ r. r.version < length versions) rows
  version-within rows lines rel = All-from_recursion _ rows (each_named rows lines rel)

  each_row_within : (rows : List NotedLine) (lines : List Placed)
      → AllZip (IsRowOf versions) rows lines
      → AllByRecursion (λ j. j < length versions) (map (λ r. r.version) rows)
  each_row_within [] lines rel = tt
  each_row_within (row ∷ rows) [] rel = absurd rel
  each_row_within (row ∷ rows) (p ∷ lines) rel = (
    slice_get_within versions row.version p.instance rel.0.version,
    each_row_within rows lines rel.1,
  )

  -- the versions of rows
  pub All-versions_within : (rows : List NotedLine) (lines : List Placed)
      → AllZip (IsRowOf versions) rows lines
      → All (λ j. j < length versions) (map (λ r. r.version) rows)
  All-versions_within rows lines rel = All-from_recursion _ _ (each_row_within rows lines rel)
