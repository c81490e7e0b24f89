use Rattle.std.proofs.Common.{[], subst}
use Rattle.epx_types.proofs.Common.{IfOk-weaker, remaining-nil}
use Rattle.epx_graph.specs.GraphOf.{IsGraphOf}
use Rattle.epx_graph.specs.Graphs.{DependencyGraph}
use Rattle.epx_graph.proofs.build_graph.build.Goals as goal

pub returns-clause-graph : goal.returns-clause-graph
returns-clause-graph g c = IfOk-weaker c.build_after.result _ _
    (λ (graph : DependencyGraph) is. subst (λ m. IsGraphOf m graph)
    (remaining-nil c.args.merged.now) is) c.build_after.ensures

pub returns-clause-after : goal.returns-clause-after
returns-clause-after g c = IfOk-weaker c.build_after.result _ _
    (λ (graph : DependencyGraph) is. ([], is)) c.build_after.ensures
