-- The marks of a log say which instances it has lines of.
use Rattle.std.proofs.Common.{◌≡◌, ◌∙◌, ◌==◌, ◌&&◌, ◌||◌, ℕ, List, [], ◌∷◌, zero, suc, map, Some}
use Rattle.std.proofs.Common.{slice_get, slice_index, refl, sym, ap, arith}
use Rattle.std.proofs.lemmas.Bool.Decides.{Decides-eqb}
use Rattle.epx_types.proofs.Common.{list_any, AllZip, Decides, IsRising, Instance}
use Rattle.epx_types.proofs.Common.{Placed, slice_get-rising_is_unique}
use Rattle.epx_types.specs.declared.id.Id.{Id}
use Rattle.epx_types.specs.declared.place.Place.{Place}
use Rattle.std.specs.Bool.{one_answer}
use Rattle.epx_versions.specs.declared.noted.NotedLine.{NotedLine}
use Rattle.epx_compare.specs.Gaps.{has_line}
use Rattle.epx_versions.specs.SameInstances.{same_id}
use Rattle.epx_versions.specs.inner.EqualVersions.{same_id-decides}
use Rattle.epx_compare.specs.inner.LogMarks.{is_line_in}
use Rattle.epx_versions.specs.between.NotedRows.{IsRowOf}

-- the position of a version, and the Id there
pub slice_get-position : (ids : List Id) (versions : List Instance) (positions : List ℕ)
    → map (slice_get ids) positions ≡ map Some (map (λ e. e.id) versions)
    → (v : ℕ) (e : Instance) → slice_get versions v ≡ Some e
    → slice_get ids (slice_index positions v) ≡ Some e.id
slice_get-position ids [] positions same v e at = absurd (cc at)
slice_get-position ids (d ∷ versions) [] same v e at = absurd (cc same)
slice_get-position ids (d ∷ versions) (k ∷ positions) same zero e at =
    let here : slice_get ids k ≡ Some d.id = cc same in
    let own : d ≡ e = cc at in
    here ∙ ap (λ (i : Instance). Some i.id) own
slice_get-position ids (d ∷ versions) (k ∷ positions) same (suc v) e at =
    let rest : map (slice_get ids) positions ≡ map Some (map (λ i. i.id) versions) = cc same in
    slice_get-position ids versions positions rest v e at

module _ (ids : List Id) (rising : IsRising ids) where
  module _ (versions : List Instance) (positions : List ℕ)
      (same : map (slice_get ids) positions ≡ map Some (map (λ e. e.id) versions))
      (log k : ℕ) (x : Id) (at : slice_get ids k ≡ Some x) where
    -- a version has this position exactly if its instance has the Id there
    position_decides : (v : ℕ) (e : Instance) → slice_get versions v ≡ Some e
        → Decides (slice_index positions v == k) (e.id ≡ x)
    position_decides v e found =
        let own = slice_get-position ids versions positions same v e found in (
          λ h. let there : slice_index positions v ≡ k = (Decides-eqb _ _).0 h in
              let both : Some e.id ≡ Some x =
              sym own ∙ (ap (slice_get ids) there ∙ at) in cc both,
          λ e_is. (Decides-eqb _ _).1
              (slice_get-rising_is_unique ids rising (slice_index positions v) k x
              (own ∙ ap Some e_is)
              at),
        )

    row_test : (row : NotedLine) (p : Placed) → IsRowOf versions row p
        → is_line_in positions log k row
        ≡ ((p.place.log == log) && same_id p.instance.id x)
    row_test row p rel =
        let decides = position_decides row.version p.instance rel.version in
        let second = one_answer _ _ decides (same_id-decides p.instance.id x) in
        let first : (row.place.log == log) ≡ (p.place.log == log) =
        ap (λ (at' : Place). at'.log == log) rel.place in
        λ i. first i && second i

    -- a row of the log and the instance is there exactly if a line is
    pub has_line-by_rows : (rows : List NotedLine) (lines : List Placed)
        → AllZip (IsRowOf versions) rows lines
        → has_line lines log x ≡ list_any (is_line_in positions log k) rows
    has_line-by_rows [] [] rel = refl
    has_line-by_rows [] (p ∷ lines) rel = absurd rel
    has_line-by_rows (row ∷ rows) [] rel = absurd rel
    has_line-by_rows (row ∷ rows) (p ∷ lines) rel =
        let here = row_test row p rel.0 in
        let rest = has_line-by_rows rows lines rel.1 in
        λ i. sym here i || rest i
