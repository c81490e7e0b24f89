use Rattle.std.proofs.Common.{◌-◌, length}
use Rattle.epx_graph.specs.inner.Remainder.{rest_of}
use Rattle.epx_graph.proofs.dependency_rows.mean_deps.Given as goal

abbrev pub decreases-loop-index : goal.decreases-loop-index
decreases-loop-index l = length (rest_of l.left) - l.index
