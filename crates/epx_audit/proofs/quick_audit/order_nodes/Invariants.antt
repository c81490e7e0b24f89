use Rattle.std.proofs.Common.{◌≡◌, ℕ, ◌<◌, get_or, length, slice_get, Some}
use Rattle.epx_types.proofs.Common.{ids_of, Ranked}
use Rattle.epx_audit.proofs.quick_audit.order_nodes.Given as goal

abbrev pub invariant-loop-id : goal.invariant-loop-id
invariant-loop-id l = record {
  whole : length l.nodes.items ≡ l.id-index;
  each : (p : ℕ) (r : Ranked) → p < l.id-index → slice_get l.order p ≡ Some r
      → slice_get (ids_of l.merged) (get_or l.nodes.items p 0) ≡ Some r.id;
}
