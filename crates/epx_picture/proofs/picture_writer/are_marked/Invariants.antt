use Rattle.std.proofs.Common.{All, take}
use Rattle.epx_picture.specs.inner.NodeMarks.{HasMark}
use Rattle.epx_picture.proofs.picture_writer.are_marked.Given as goal

abbrev pub invariant-loop-node : goal.invariant-loop-node
invariant-loop-node l = All (HasMark l.marks) (take l.node-index l.nodes)
