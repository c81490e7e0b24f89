use Rattle.std.proofs.Common.{List}
use Rattle.epx_committed.specs.between.Ledgers.{NotesLines}
use Rattle.epx_merge.specs.LogLines.{MeaningAt}
use Rattle.epx_merge.specs.between.ReadPieces.{AreRead, HasEntries}
use Rattle.epx_merge.proofs.ReadPieceLemmas.{IsGathering}
use Rattle.epx_merge.proofs.pieces.note_pieces.Given as goal

abbrev pub invariant-loop-piece : goal.invariant-loop-piece
invariant-loop-piece l =
    (lines : List MeaningAt) → AreRead HasEntries lines
    l.fn.pieces.items
    → IsGathering HasEntries lines
    (λ given. NotesLines given l.fn.ledger l.ledger) l.piece-iterator.rest.items
