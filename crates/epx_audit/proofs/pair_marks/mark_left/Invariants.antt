use Rattle.std.proofs.Common.{◌≡◌, ℕ, List, length}
use Rattle.epx_graph.proofs.Common.{edges_of}
use Rattle.epx_components.specs.between.Partitions.{parts}
use Rattle.epx_audit.specs.inner.PairMarks.{AreExactBut}
use Rattle.epx_audit.proofs.PairMarkLemmas.{AreExactFrom, IsPass}
use Rattle.epx_audit.proofs.pair_marks.mark_left.Given as goal

abbrev pub invariant-loop-index : goal.invariant-loop-index
invariant-loop-index l = record {
  len : length l.marks ≡ length l.fn.marks;
  pass : IsPass l.graph (parts l.partition) l.sources.items l.reached.items;
  exact : (nodes : List ℕ) (pairs : List (ℕ × ℕ))
      → AreExactBut (edges_of l.graph) nodes pairs l.left l.fn.marks
      → AreExactFrom (edges_of l.graph) nodes pairs l.left l.marks l.index;
}
