use Rattle.std.proofs.Common.{◌<◌, ◌+◌, ℕ, All, sym, subst}
use Rattle.epx_types.proofs.Common.{IfOk-weaker}
use Rattle.epx_graph.specs.declared.search.MarkKind.TheVariants as kind
use Rattle.epx_graph.specs.between.NodeSteps.{AreDistancesTo}
use Rattle.epx_graph.specs.inner.Searches.{mark_by, AreFirstMarks}
use Rattle.epx_graph.proofs.NodeStepLemmas.{AreDistancesTo-marks, All-sources_within}
use Rattle.epx_graph.proofs.distances.distances_to.Goals as goal

pub search-requires-clause-rows : goal.search-requires-clause-rows
search-requires-clause-rows c =
    subst (λ (n : ℕ). All (λ row. All (λ k. k < n) row) c.in_ok-sources.sources)
    (sym c.len-nodes.ensures.len)
    (All-sources_within c.args.graph.now c.in_ok-sources.sources c.len-nodes.ensures.fits
    c.in_ok-sources.ensures.transpose)

pub returns : goal.returns
returns c =
    let g = c.args.graph.now in
    let k = c.args.node in
    let sources = c.in_ok-sources.sources in
    IfOk-weaker c.search.result
    (λ ds. AreFirstMarks sources (mark_by kind.Steps) k (k + 1) c.len-nodes.result ds.items)
    (λ ds. AreDistancesTo g k ds.items)
    (λ ds are. AreDistancesTo-marks g sources k ds.items c.in_ok-sources.ensures.transpose
    (subst (λ (n : ℕ). AreFirstMarks sources (mark_by kind.Steps) k (k + 1) n ds.items)
    c.len-nodes.ensures.len are))
    c.search.ensures
