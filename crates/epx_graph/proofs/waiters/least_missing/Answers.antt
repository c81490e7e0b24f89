use Rattle.std.proofs.Common.{◌<◌, ℕ, All, sym, subst, subst₂}
use Rattle.epx_types.proofs.Common.{IfOk-weaker}
use Rattle.epx_graph.specs.declared.search.MarkKind.TheVariants as kind
use Rattle.epx_graph.specs.inner.LeastMissing.{AreMarksOf}
use Rattle.epx_graph.specs.inner.Searches.{mark_by, AreFirstMarks}
use Rattle.epx_graph.proofs.LeastMissingLemmas.{AreMarksOf-first_marks}
use Rattle.epx_graph.proofs.NodeStepLemmas.{All-sources_within}
use Rattle.epx_graph.proofs.waiters.least_missing.Goals as goal

pub search-requires-clause-rows : goal.search-requires-clause-rows
search-requires-clause-rows c =
    subst (λ (n : ℕ). All (λ row. All (λ k. k < n) row) c.in_ok-sources.sources)
    (sym c.len-nodes.ensures.len)
    (All-sources_within c.args.graph.now c.in_ok-sources.sources c.len-nodes.ensures.fits
    c.in_ok-sources.ensures.transpose)

pub returns-clause-marks : goal.returns-clause-marks
returns-clause-marks c =
    let g = c.args.graph.now in
    let sources = c.in_ok-sources.sources in
    let nodes = c.len-nodes.result in
    IfOk-weaker c.search.result
    (λ marks. AreFirstMarks sources (mark_by kind.Start) c.committed_len-committed.result nodes
    nodes marks.items)
    (λ marks. AreMarksOf g marks.items)
    (λ marks are. AreMarksOf-first_marks g sources marks.items c.in_ok-sources.ensures.transpose
    (subst₂ (λ (first n : ℕ). AreFirstMarks sources (mark_by kind.Start) first n n marks.items)
    c.committed_len-committed.ensures c.len-nodes.ensures.len are))
    c.search.ensures
