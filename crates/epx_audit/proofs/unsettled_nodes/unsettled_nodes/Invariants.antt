use Rattle.std.proofs.Common.{◌≡◌, ℕ, ◌<◌, length, IsTrue}
use Rattle.epx_components.specs.between.ReadyMarks.{is_marked}
use Rattle.epx_audit.specs.inner.UnsettledNodes.{doubtful_at}
use Rattle.epx_audit.proofs.unsettled_nodes.unsettled_nodes.Given as goal

abbrev pub invariant-loop-touch : goal.invariant-loop-touch
invariant-loop-touch l = record {
  len : length l.unsettled.items ≡ l.nodes;
  marks : (i : ℕ) → i < l.touch-index
      → IsTrue (is_marked l.unsettled.items (doubtful_at l.touches i).node);
}
