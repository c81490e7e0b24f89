use Rattle.std.proofs.Common.{List}
use Rattle.epx_types.proofs.Common.{Instance}
use Rattle.epx_graph.proofs.Common.{IsGraphOf}
use Rattle.epx_ranking.specs.inner.NodeLists.{AreListed}
use Rattle.epx_ranking.specs.OrderFaults.{ReadyOnce}
use Rattle.epx_ranking.proofs.check.node_list.list_nodes.Given as goal

abbrev pub invariant-loop-place : goal.invariant-loop-place
invariant-loop-place l = record {
  listed : AreListed l.graph l.ids l.place l.node_list.nodes.items l.node_list.marks.items;
  sound : (m : List Instance) → IsGraphOf m l.graph → ReadyOnce m l.ids l.place;
}
