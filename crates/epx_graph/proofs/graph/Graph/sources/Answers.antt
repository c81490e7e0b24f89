use Rattle.std.proofs.Common.{◌-◌, length, subst}
use Rattle.epx_types.proofs.Common.{IfOk-weaker}
use Rattle.epx_graph.specs.Graphs.{DependencyGraph}
use Rattle.epx_rows.specs.between.Rows.{AreTransposed}
use Rattle.epx_graph.proofs.BuildLemmas.{AreTransposed-padded}
use Rattle.epx_graph.proofs.graph.Graph.sources.Goals as goal

pub returns-clause-transpose : goal.returns-clause-transpose
returns-clause-transpose c =
    let rows = c.self.inside.rows in
    let spare = length c.self.inside.ids.items - length rows in
    IfOk-weaker c.transpose.result (AreTransposed rows) (AreTransposed c.args.self.now.edges)
    (λ back h. subst (λ (g : DependencyGraph). AreTransposed g.edges back) c.self.view_is
    (AreTransposed-padded rows back spare h)) c.transpose.ensures.transpose
