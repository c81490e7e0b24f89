use Rattle.std.proofs.Common.{take}
use Rattle.epx_why.specs.inner.NodeWalks.{AreFewest}
use Rattle.epx_why.proofs.walk.fewest_steps.Given as goal

abbrev pub invariant-loop-target : goal.invariant-loop-target
invariant-loop-target l = AreFewest l.distances (take l.target-index l.targets) l.fewest
