use Rattle.epx_audit.specs.inner.Touches.{ArePlaced, HoldTouches}
use Rattle.epx_audit.proofs.touches.find_touches.Given as goal

abbrev pub invariant-loop-position : goal.invariant-loop-position
invariant-loop-position l = record {
  placed : ArePlaced l.position l.touches.items;
  whole : HoldTouches l.start l.merged l.nodes l.position l.touches.items;
}
