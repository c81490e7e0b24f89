use Rattle.std.proofs.Common.{◌≡◌, length}
use Rattle.epx_audit.specs.inner.PathCovers.{ArePositions}
use Rattle.epx_audit.proofs.path_cover.positions_of.Given as goal

abbrev pub invariant-loop-position : goal.invariant-loop-position
invariant-loop-position l = record {
  len : length l.positions.items ≡ l.count;
  placed : ArePositions l.nodes l.positions.items;
}
