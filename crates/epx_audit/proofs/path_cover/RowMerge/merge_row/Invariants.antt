use Rattle.std.proofs.Common.{◌≡◌, ℕ, ◌<◌, ◌≤◌, get_or}
use Rattle.epx_audit.specs.inner.PathCovers.{AddsTo, AreNotedPaths, member_at}
use Rattle.epx_audit.proofs.path_cover.RowMerge.merge_row.Given as goal

-- the entries before this one are noted
abbrev pub invariant-loop-entry : goal.invariant-loop-entry
invariant-loop-entry l = record {
  adds : AddsTo l.fn.self.greatest.items l.self.greatest.items (λ path e. (i : ℕ)
      × ((member_at l.cover.members.items l.fn.position).row_start ≤ i) × (i < l.entry)
      × (get_or l.cover.row_paths.items i 0 ≡ path)
      × (get_or l.cover.row_positions.items i 0 ≡ e));
  paths : AreNotedPaths l.self.greatest.items l.self.paths.items;
}
