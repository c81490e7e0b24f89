use Rattle.std.proofs.Common.{◌≡◌, ℕ, ◌<◌, ◌≤◌, length, ◌⊎◌, IsTrue}
use Rattle.epx_graph.proofs.Common.{edges_of}
use Rattle.epx_audit.specs.inner.RelatedTouches.{touch_at, TouchReaches}
use Rattle.epx_audit.proofs.quick_audit.is_related_back.Given as goal

abbrev pub invariant-loop-earlier : goal.invariant-loop-earlier
invariant-loop-earlier l = record {
  seen : length l.path_search.seen.items ≡ length l.initial.path_search.seen.items;
  related_back : (j : ℕ) → l.last_writer ≤ j → j < l.earlier
      → IsTrue (touch_at l.touches l.index).writes ⊎ IsTrue (touch_at l.touches j).writes
      → TouchReaches (edges_of l.graph) l.reach.nodes.items l.touches l.index j;
}
