use Rattle.std.proofs.Common.{◌≡◌, ℕ, ◌-◌, ◌<◌, length, IsTrue}
use Rattle.epx_graph.proofs.Common.{DependencyGraph, edges_of}
use Rattle.epx_components.specs.between.ReadyMarks.{is_marked}
use Rattle.epx_audit.specs.inner.ReachIndexes.{IsReachIndex}
use Rattle.epx_audit.specs.inner.UnsettledNodes.{touch_in, FollowAll}
use Rattle.epx_audit.proofs.UnsettledNodeLemmas.{HaveEndsIn}
use Rattle.epx_audit.proofs.unsettled_nodes.mark_unsettled.Given as goal

abbrev pub invariant-loop-step : goal.invariant-loop-step
invariant-loop-step l = record {
  len : length l.unsettled ≡ length l.fn.unsettled;
  keeps : (k : ℕ) → IsTrue (is_marked l.fn.unsettled k) → IsTrue (is_marked l.unsettled k);
  key : 0 < l.step → (touch_in l.on l.touches (l.step - 1)).key ≡ l.key;
  ends : HaveEndsIn l.reach l.on l.touches l.key l.touching.items l.writing.items l.step;
  follow : (g : DependencyGraph) → IsReachIndex g l.reach
      → FollowAll (edges_of g) l.on l.touches l.unsettled l.step;
}
