use Rattle.std.proofs.Common.{◌≡◌, ◌⊎◌, ℕ, length, Contains}
use Rattle.epx_graph.proofs.Common.{edges_of}
use Rattle.epx_audit.proofs.search.PathSearch.open_targets.Given as goal

abbrev pub invariant-loop-target : goal.invariant-loop-target
invariant-loop-target l = record {
  seen : length l.self.seen.items ≡ length l.initial.self.seen.items;
  opened : (j : ℕ) → Contains l.self.opened.items j
      → Contains l.initial.self.opened.items j ⊎ Contains (edges_of l.graph l.node) j;
}
