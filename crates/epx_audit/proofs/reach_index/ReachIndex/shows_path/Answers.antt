use Rattle.std.proofs.Common.{sym, subst₂, ◌∙◌}
use Rattle.epx_types.proofs.Common.{false≢true}
use Rattle.epx_graph.proofs.Common.{edges_of, NodeReaches}
use Rattle.epx_audit.proofs.reach_index.ReachIndex.shows_path.Goals as goal
use Rattle.epx_audit.proofs.reach_index.ReachIndex.shows_path.Goals.{then-has_node_at}
use Rattle.epx_audit.proofs.reach_index.ReachIndex.shows_path.Goals.{else-has_node_at}

pub reaches-requires : goal.reaches-requires
reaches-requires c = elim c.if-has_node_at.branch [
  | then-has_node_at w ↦
      let own = c.has_node_at.ensures w.if-has_node_at.true in
      let other =
      w.has_node_at-then-has_node_at.ensures (sym w.value-is ∙ c.if-has_node_at-2.true) in
      let cover = rw c.in-Some.is at c.requires.reach.1.cover in
      (c.requires.reach.0, c.args.self.now.nodes.items, cover, own.0, other.0)
  | else-has_node_at w ↦ absurd (false≢true
      (sym w.if-has_node_at.false ∙ (sym w.value-is ∙ c.if-has_node_at-2.true)))
]

pub returns-then-has_node_at-2 : goal.returns-then-has_node_at-2
returns-then-has_node_at-2 c found g is = elim c.if-has_node_at.branch [
  | then-has_node_at w ↦
      let own = c.has_node_at.ensures w.if-has_node_at.true in
      let other =
      w.has_node_at-then-has_node_at.ensures (sym w.value-is ∙ c.if-has_node_at-2.true) in
      let cover = rw c.in-Some.is at is.cover in
      subst₂ (NodeReaches (edges_of g)) own.1 other.1
      ((c.reaches.ensures g c.args.self.now.nodes.items cover own.0 other.0).0 found)
  | else-has_node_at w ↦ absurd (false≢true
      (sym w.if-has_node_at.false ∙ (sym w.value-is ∙ c.if-has_node_at-2.true)))
]
