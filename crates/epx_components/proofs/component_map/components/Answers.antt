use Rattle.epx_types.proofs.Common.{slice_get_within}
use Rattle.epx_graph.proofs.Common.{slice_get-id_of_node}
use Rattle.epx_components.specs.between.Partitions.{parts}
use Rattle.epx_components.proofs.InstanceLeaderLemmas.{IsNodeLeader-within, IsLeader-from_node}
use Rattle.epx_components.proofs.NodeRankLemmas.{IsNodeLeader-by_node}
use Rattle.epx_components.proofs.component_map.components.Goals as goal

pub returns-clause-leaders : goal.returns-clause-leaders
returns-clause-leaders c = IsNodeLeader-by_node _ (parts c.in_ok-partition.partition) _ _
    c.in_ok-partition.ensures.each_node c.in_ok-leaders.ensures.each

pub returns-clause-instances : goal.returns-clause-instances
returns-clause-instances c m is k x at =
    let g = c.args.graph.now in
    let below = slice_get_within g.ids k x at in
    let lead = returns-clause-leaders c k below in
    let y = slice_get-id_of_node g is.graph _ (IsNodeLeader-within g is.graph k _ below lead) in
    (y.0, y.1, IsLeader-from_node m g is k _ x y.0 at y.1 lead)
