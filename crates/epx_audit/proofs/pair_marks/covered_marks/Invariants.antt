use Rattle.std.proofs.Common.{◌≡◌, ℕ, ◌<◌, List, length}
use Rattle.epx_graph.proofs.Common.{DependencyGraph, edges_of}
use Rattle.epx_audit.specs.between.RelatedPairs.{AreLaterFirst}
use Rattle.epx_audit.specs.inner.PairMarks.{IsExact}
use Rattle.epx_audit.specs.inner.PathCovers.{IsPathCover}
use Rattle.epx_audit.proofs.pair_marks.covered_marks.Given as goal

abbrev pub invariant-loop-index : goal.invariant-loop-index
invariant-loop-index l = record {
  len : length l.marks.items ≡ l.index;
  exact : (g : DependencyGraph) (nodes : List ℕ) → IsPathCover g nodes l.cover
      → AreLaterFirst (length nodes) l.pairs → (i : ℕ) → i < l.index
      → IsExact (edges_of g) nodes l.pairs l.marks.items i;
}
