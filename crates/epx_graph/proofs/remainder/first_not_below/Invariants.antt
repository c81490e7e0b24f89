use Rattle.std.proofs.Common.{◌-◌, length}
use Rattle.epx_graph.proofs.remainder.first_not_below.Given as goal

abbrev pub decreases-loop-index : goal.decreases-loop-index
decreases-loop-index l = length l.done - l.index
