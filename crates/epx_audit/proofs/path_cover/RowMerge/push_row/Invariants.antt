use Rattle.std.proofs.Common.{◌≡◌, ℕ, List, ◌++◌, take}
use Rattle.epx_audit.specs.inner.PathCovers.{IsCoverRow}
use Rattle.epx_audit.proofs.path_cover.RowMerge.push_row.Given as goal

-- the entries of the paths before this one are pushed
abbrev pub invariant-loop-path : goal.invariant-loop-path
invariant-loop-path l = record {
  paths : l.row_paths.items ≡ l.fn.row_paths.items ++ take l.path-index l.self.paths.items;
  positions : (added : List ℕ)
      × IsCoverRow l.self.greatest.items (take l.path-index l.self.paths.items) added
      × (l.row_positions.items ≡ l.fn.row_positions.items ++ added);
}
