use Rattle.std.proofs.Common.{◌≡◌, ◌≢◌, ℕ, ◌<◌, get_or}
use Rattle.epx_components.specs.inner.SearchStates.{visit_of}
use Rattle.epx_components.specs.declared.visit.Visit.TheVariants.{Closed}
use Rattle.epx_components.proofs.visit.close_nodes.Given as goal

abbrev pub invariant-loop-node : goal.invariant-loop-node
invariant-loop-node l = record {
  closed : (i : ℕ) → i < l.node-index → visit_of l.visits (get_or l.nodes i 0) ≡ Closed l.component;
  others : (k : ℕ) → ((i : ℕ) → i < l.node-index → get_or l.nodes i 0 ≢ k)
      → visit_of l.visits k ≡ visit_of l.fn.visits k;
}
