use Rattle.std.proofs.Common.{◌≡◌, ◌+◌, ℕ, List, Option, length, sym, ap, subst, ◌∙◌}
use Rattle.epx_graph.specs.inner.Searches.{mark_by, AreClosed, AreFirstMarks, IsSearchFrom}
use Rattle.epx_graph.proofs.SearchLemmas.{AreClosed-marks, AreFirstMarks-step, take-written_marks}
use Rattle.epx_graph.proofs.search.search.Goals as goal

pub search_from-requires-clause-closed : goal.search_from-requires-clause-closed
search_from-requires-clause-closed c =
    subst (λ (marks : List (Option ℕ)). AreClosed c.args.rows.now marks)
    (sym c.deref_mut.ensures.value)
    (AreClosed-marks c.args.rows.now (mark_by c.args.kind) c.args.first c.args.nodes
    c.loop-start.start c.loop-start.marks.items c.loop-start.invariant.marks)

pub loop-start-preserved : goal.loop-start-preserved
loop-start-preserved c =
    let rows = c.args.rows.now in
    let start = c.loop-start.start in
    let old = c.loop-start.marks.items in
    let new = c.search_from.new.marks in
    let long : length new ≡ length old = c.search_from.auto.marks
    ∙ ap length c.deref_mut.ensures.value in
    let back = take-written_marks new old c.loop-start.marks.len long c.loop-start.marks.ok.0 in
    let is = subst (λ (marks : List (Option ℕ)). IsSearchFrom rows start
    (mark_by c.args.kind start) marks new) c.deref_mut.ensures.value
    c.in_ok-search_from.ensures.marks in
    record {
      marks = subst (λ (marks : List (Option ℕ)). AreFirstMarks rows (mark_by c.args.kind)
          c.args.first (start + 1) c.args.nodes marks) (sym back)
          (AreFirstMarks-step rows (mark_by c.args.kind) c.args.first c.args.nodes start old
          c.loop-start.invariant.marks c.loop-start.auto.start new is);
      level = c.in_ok-search_from.ensures.level;
      next = c.in_ok-search_from.ensures.next;
    }
