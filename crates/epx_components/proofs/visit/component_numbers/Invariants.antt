use Rattle.std.proofs.Common.{◌≡◌, ℕ, ◌<◌, vec_len, get_or}
use Rattle.epx_components.specs.inner.SearchStates.{visit_of}
use Rattle.epx_components.specs.declared.visit.Visit.TheVariants.{Closed}
use Rattle.epx_components.proofs.visit.component_numbers.Given as goal

abbrev pub invariant-loop-visit : goal.invariant-loop-visit
invariant-loop-visit l = record {
  len : vec_len l.component ≡ l.visit-index;
  closed : (k : ℕ) → k < l.visit-index
      → visit_of l.fn.visits k ≡ Closed (get_or l.component.items k 0);
}
