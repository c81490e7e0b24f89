use Rattle.std.proofs.Common.{◌≡◌, ◌<◌, ℕ, length, Contains}
use Rattle.epx_graph.proofs.Common.{edges_of, NodeReaches}
use Rattle.epx_audit.proofs.search.PathSearch.find_path.Given as goal

abbrev pub invariant-loop : goal.invariant-loop
invariant-loop l = record {
  seen : length l.self.seen.items ≡ length l.graph.ids;
  opened : (j : ℕ) → Contains l.self.opened.items j
      → (j < length l.graph.ids) × NodeReaches (edges_of l.graph) l.from j;
}
