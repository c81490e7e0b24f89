use Rattle.epx_audit.proofs.DoubtfulTouchLemmas.{AreFound, HoldFound}
use Rattle.epx_audit.proofs.doubtful_touches.doubtful_touches.Given as goal

abbrev pub invariant-loop-touch : goal.invariant-loop-touch
invariant-loop-touch l = record {
  some : AreFound l.nodes l.hashes l.found.items;
  all : HoldFound l.nodes l.touches l.hashes l.found.items l.touch-index;
}
