-- Lines that are noted in a ledger.
use Rattle.std.specs.Prelude.{◌≡◌, ◌++◌, [], List, Result}
use Rattle.epx_types.specs.declared.fault.Why.{Why}
use Rattle.epx_lines.specs.declared.Line.{Line}
use Rattle.epx_committed.specs.between.Ledgers.{LedgerView, IsLedgerOf}
use Rattle.epx_merge.specs.declared.pieces.BadLine.{BadLine}
use Rattle.epx_merge.specs.declared.pieces.ReadPiece.{ReadPiece}
use Rattle.epx_merge.specs.LogLines.{MeaningAt, placed_among, bad_lines_among}
use Rattle.epx_merge.specs.between.ReadPieces.{AreRead, HasEntries}
use Rattle.epx_merge.specs.between.RedundantLines.{DropsRedundant, IsCacheOf}

-- the lines, some redundant ones aside, are those that the ledger has, none of them bad, and then
-- those that `pieces` are the results of reading; the cache has no meanings but theirs and blank
pub record AreReadUpTo (lines : List MeaningAt) (ledger : LedgerView)
    (cache : List (Result Line Why)) (pieces : List (Result ReadPiece BadLine)) : Type 0 where
  pub read : List MeaningAt
  pub pending : List MeaningAt
  pub drops : DropsRedundant lines [] (read ++ pending)
  pub clean : bad_lines_among read ≡ []
  pub noted : IsLedgerOf (placed_among read) ledger
  pub given : AreRead HasEntries pending pieces
  pub cached : IsCacheOf (read ++ pending) cache
