use Rattle.std.proofs.Common.{◌≡◌, length}
use Rattle.epx_graph.proofs.Common.{edges_of}
use Rattle.epx_components.specs.inner.SearchInvariants.{IsSearch}
use Rattle.epx_components.specs.inner.SearchStates.{state}
use Rattle.epx_components.proofs.search.find_components.Given as goal

abbrev pub invariant-loop-root : goal.invariant-loop-root
invariant-loop-root l = record {
  search : IsSearch (edges_of l.graph) (length l.graph.ids) l.root (state l.search);
  none : length l.search.starts.items ≡ 0;
}
