use Rattle.std.proofs.Common.{ℕ, ◌<◌, Contains}
use Rattle.epx_audit.specs.inner.DoubtfulKeys.{AreInRange}
use Rattle.epx_audit.proofs.DoubtfulTouchLemmas.{writes_the_only_key}
use Rattle.epx_audit.proofs.doubtful_touches.all_doubtful.Given as goal

abbrev pub invariant-loop-node : goal.invariant-loop-node
invariant-loop-node l = record {
  in_range : AreInRange l.node 1 l.touches.items;
  whole : (k : ℕ) → k < l.node → Contains l.touches.items (writes_the_only_key k);
}
