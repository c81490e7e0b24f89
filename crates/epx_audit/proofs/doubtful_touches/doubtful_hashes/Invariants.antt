use Rattle.std.proofs.Common.{◌≡◌, ◌≤◌, length}
use Rattle.std.specs.List.Sorted.{IsStrictlyIncreasing}
use Rattle.epx_audit.proofs.doubtful_touches.doubtful_hashes.Given as goal

abbrev pub invariant-loop-index : goal.invariant-loop-index
invariant-loop-index l = record {
  seen : length l.path_search.seen.items ≡ length l.graph.ids;
  last_writer : l.last_writer ≤ l.index;
  rising : IsStrictlyIncreasing l.hashes.items;
}
