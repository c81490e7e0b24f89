use Rattle.std.proofs.Common.{◌≡◌, ℕ, ◌-◌, ◌≤◌, [], length, None}
use Rattle.epx_graph.proofs.Common.{edges_of}
use Rattle.epx_audit.specs.inner.PathCovers.{AreCovered, AreTails, greatest_on, lists_of}
use Rattle.epx_audit.proofs.path_cover.PathCover.of.Given as goal

-- the positions so far are covered, and the row is empty
abbrev pub invariant-loop-cover : goal.invariant-loop-cover
invariant-loop-cover l = record {
  covered : AreCovered (edges_of l.graph) l.nodes (lists_of l.cover);
  within : length l.cover.members.items ≤ length l.nodes;
  tails : AreTails (edges_of l.graph) l.nodes (lists_of l.cover) l.tails.items;
  each_tail : length l.tails.items ≡ length l.nodes;
  each_path : length l.row.greatest.items ≡ length l.nodes;
  none : (path : ℕ) → greatest_on l.row.greatest.items path ≡ None;
  paths : l.row.paths.items ≡ [];
}

abbrev pub decreases-loop-cover : goal.decreases-loop-cover
decreases-loop-cover l = length l.nodes - length l.cover.members.items
