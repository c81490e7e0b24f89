use Rattle.std.proofs.Common.{◌≡◌, ℕ, ◌<◌, false, not, length, get_or}
use Rattle.epx_components.proofs.ready.ready_nodes.Given as goal

abbrev pub invariant-loop-component : goal.invariant-loop-component
invariant-loop-component l = record {
  len : length l.ready.items ≡ l.component-index;
  each : (k : ℕ) → k < l.component-index → get_or l.ready.items k false
      ≡ not (get_or l.missing.items (get_or l.component-items k 0) false);
}
