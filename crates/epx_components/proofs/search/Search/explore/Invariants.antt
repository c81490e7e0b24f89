use Rattle.std.proofs.Common.{◌+◌, length}
use Rattle.epx_graph.proofs.Common.{edges_of}
use Rattle.epx_components.specs.inner.SearchInvariants.{IsSearch}
use Rattle.epx_components.specs.inner.SearchStates.{state}
use Rattle.epx_components.specs.inner.SearchWork.{work_left}
use Rattle.epx_components.proofs.search.Search.explore.Given as goal

abbrev pub invariant-loop-self : goal.invariant-loop-self
invariant-loop-self l = IsSearch (edges_of l.graph) (length l.graph.ids) (l.root + 1)
    (state l.self)

abbrev pub decreases-loop-self : goal.decreases-loop-self
decreases-loop-self l = work_left l.graph.edges (state l.self)
