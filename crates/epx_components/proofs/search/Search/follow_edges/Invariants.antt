use Rattle.std.proofs.Common.{◌≡◌, ◌<◌, length, false}
use Rattle.epx_graph.proofs.Common.{edges_of}
use Rattle.epx_components.specs.inner.SearchInvariants.{KeepsSearch}
use Rattle.epx_components.specs.inner.SearchStates.{state}
use Rattle.epx_components.specs.inner.SearchSteps.{IsInTopGroup}
use Rattle.epx_components.specs.inner.SearchWork.{work_left}
use Rattle.epx_components.proofs.search.Search.follow_edges.Given as goal

abbrev pub invariant-loop-opens : goal.invariant-loop-opens
invariant-loop-opens l =
    KeepsSearch (edges_of l.graph) (length l.graph.ids) (state l.fn.self) (state l.self)
    × (work_left l.graph.edges (state l.self) < work_left l.graph.edges (state l.fn.self))
    × (l.opens ≡ false → IsInTopGroup (state l.self) l.node)

abbrev pub decreases-loop-opens : goal.decreases-loop-opens
decreases-loop-opens l = work_left l.graph.edges (state l.self)
