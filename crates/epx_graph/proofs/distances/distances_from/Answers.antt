use Rattle.std.proofs.Common.{◌+◌, ℕ, subst}
use Rattle.epx_types.proofs.Common.{IfOk-weaker}
use Rattle.epx_graph.specs.declared.search.MarkKind.TheVariants as kind
use Rattle.epx_graph.specs.between.NodeSteps.{AreDistancesFrom}
use Rattle.epx_graph.specs.inner.Searches.{mark_by, AreFirstMarks}
use Rattle.epx_graph.proofs.NodeStepLemmas.{AreDistancesFrom-marks}
use Rattle.epx_graph.proofs.distances.distances_from.Goals as goal

pub returns : goal.returns
returns c =
    let g = c.args.graph.now in
    let k = c.args.node in
    let rows = c.rows.result.now in
    IfOk-weaker c.search.result
    (λ ds. AreFirstMarks rows (mark_by kind.Steps) k (k + 1) c.len-nodes.result ds.items)
    (λ ds. AreDistancesFrom g k ds.items)
    (λ ds are. AreDistancesFrom-marks g rows k ds.items c.rows.ensures.edges
    (subst (λ (n : ℕ). AreFirstMarks rows (mark_by kind.Steps) k (k + 1) n ds.items)
    c.len-nodes.ensures.len are))
    c.search.ensures
