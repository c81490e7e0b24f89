use Rattle.std.proofs.Common.{ℕ, ◌<◌, get_or}
use Rattle.epx_audit.specs.inner.PathCovers.{AddsTo, AreNotedPaths, IsTargetEntry, lists_of}
use Rattle.epx_audit.proofs.path_cover.RowMerge.merge_targets.Given as goal

-- the rows of the targets before this one are noted
abbrev pub invariant-loop-target : goal.invariant-loop-target
invariant-loop-target l = record {
  before : (i : ℕ) → i < l.target-index → get_or l.positions (get_or l.targets i 0) 0 < l.end;
  adds : AddsTo l.fn.self.greatest.items l.self.greatest.items
      (IsTargetEntry (lists_of l.cover) l.positions l.targets l.target-index);
  paths : AreNotedPaths l.self.greatest.items l.self.paths.items;
}
