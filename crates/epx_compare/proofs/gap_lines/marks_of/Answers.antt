use Rattle.std.proofs.Common.{◌≡◌, ◌∙◌, ◌<◌, ℕ, List, length, All, sym, ap, subst}
use Rattle.epx_types.proofs.Common.{length-map, IfOk-weaker, list_any}
use Rattle.epx_types.specs.declared.id.Id.{Id}
use Rattle.epx_versions.specs.declared.noted.NotedLine.{NotedLine}
use Rattle.epx_versions.specs.LineVersions.{versions_of}
use Rattle.epx_compare.specs.inner.Catalogs.{version_ids}
use Rattle.epx_compare.specs.inner.LogMarks.{is_line_in}
use Rattle.epx_compare.proofs.CatalogLemmas.{length-positions, All-positions_within, version-within}
use Rattle.epx_compare.proofs.MarkLemmas.{has_line-by_rows}
use Rattle.epx_compare.proofs.gap_lines.marks_of.Goals as goal

pub mark_lines-requires-clause-versions : goal.mark_lines-requires-clause-versions
mark_lines-requires-clause-versions c =
    let lines = c.requires.0 in
    let catalog = c.requires.2 in
    let named = version-within (versions_of lines) c.args.catalog.now.noted.rows.items lines
    catalog.noted.rows in
    let count : length c.deref-2.result.now ≡ length (versions_of lines) =
    ap length c.deref-2.ensures.value ∙ (length-positions c.args.catalog.now.ids _
    (version_ids lines) catalog.positions ∙ length-map (versions_of lines) (λ e. e.id)) in
    let P : List NotedLine → ℕ → Type 0 = λ rows n. All (λ r. r.version < n) rows in
    subst (λ rows. P rows (length c.deref-2.result.now)) (sym c.deref.ensures.value)
    (subst (P c.args.catalog.now.noted.rows.items) (sym count) named)

pub mark_lines-requires-clause-positions : goal.mark_lines-requires-clause-positions
mark_lines-requires-clause-positions c =
    let lines = c.requires.0 in
    let held = All-positions_within c.args.catalog.now.ids c.args.catalog.now.positions.items
    (version_ids lines) c.requires.2.positions in
    let P : List ℕ → List Id → Type 0 = λ ks ids. All (λ j. j < length ids) ks in
    subst (λ ks. P ks c.ids-instances.result.now) (sym c.deref-2.ensures.value)
    (subst (P c.args.catalog.now.positions.items) (sym c.ids-instances.ensures.ids) held)

pub returns-clause-each : goal.returns-clause-each
returns-clause-each c = IfOk-weaker c.mark_lines.result _ _
    (λ marks marked lines bad catalog log few k x at.
    has_line-by_rows c.args.catalog.now.ids c.ids-instances.ensures.rising (versions_of lines)
    c.args.catalog.now.positions.items catalog.positions log k x at
    c.args.catalog.now.noted.rows.items lines catalog.noted.rows
    ∙ ((λ i. list_any (is_line_in (sym c.deref-2.ensures.value i) log k)
    (sym c.deref.ensures.value i))
    ∙ sym (marked k log few))) c.mark_lines.ensures.each
