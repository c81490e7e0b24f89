use Rattle.epx_picture.proofs.BoxListLemmas.{AreBoxesOf}
use Rattle.epx_picture.proofs.drawing.all_boxes.Given as goal

abbrev pub invariant-loop-position : goal.invariant-loop-position
invariant-loop-position l = AreBoxesOf l.merged l.position l.node_boxes.items
