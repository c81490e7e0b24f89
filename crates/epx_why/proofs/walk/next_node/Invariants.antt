use Rattle.std.proofs.Common.{take}
use Rattle.epx_why.specs.inner.NodeWalks.{AreNext}
use Rattle.epx_why.proofs.walk.next_node.Given as goal

abbrev pub invariant-loop-target : goal.invariant-loop-target
invariant-loop-target l = AreNext l.graph l.distances (take l.target-index l.targets) l.steps l.next
