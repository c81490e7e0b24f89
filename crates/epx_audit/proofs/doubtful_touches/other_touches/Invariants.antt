use Rattle.epx_audit.proofs.DoubtfulTouchLemmas.{AreSome, HoldOthers}
use Rattle.epx_audit.proofs.doubtful_touches.other_touches.Given as goal

abbrev pub invariant-loop-touch : goal.invariant-loop-touch
invariant-loop-touch l = record {
  some : AreSome l.touches l.sure.items;
  all : HoldOthers l.touches l.hashes l.sure.items l.touch-index;
}
