use Rattle.std.proofs.Common.{◌≡◌, ℕ, ◌<◌, ◌≤◌, length, get_or, Some}
use Rattle.epx_audit.specs.inner.PathCovers.{greatest_on}
use Rattle.epx_audit.proofs.path_cover.RowMerge.clear.Given as goal

-- positions are noted only on paths from this one on
abbrev pub invariant-loop-index : goal.invariant-loop-index
invariant-loop-index l = record {
  len : length l.self.greatest.items ≡ length l.fn.self.greatest.items;
  same : l.self.paths.items ≡ l.fn.self.paths.items;
  left : (x e : ℕ) → greatest_on l.self.greatest.items x ≡ Some e → (i : ℕ) × (l.index ≤ i)
      × (i < length l.fn.self.paths.items) × (get_or l.fn.self.paths.items i 0 ≡ x);
}
