use Rattle.std.proofs.Common.{List, [], Vec}
use Rattle.epx_types.proofs.Common.{Global}
use Rattle.epx_merge.specs.between.LinePieces.{ArePiecesOf}
use Rattle.epx_merge.specs.LogLines.{MeaningAt}
use Rattle.epx_versions.specs.declared.read_line.ReadLine.{ReadLine}
use Rattle.epx_versions.specs.inner.BatchNotes.{IsNotedUpTo}
use Rattle.epx_versions.specs.between.NotedLines.{AreNotedLines}
use Rattle.epx_versions.specs.between.ReadMeanings.{AreReadSo}
use Rattle.epx_versions.proofs.version_notes.VersionNotes.note_batch.Given as goal

abbrev pub invariant-loop-piece : goal.invariant-loop-piece
invariant-loop-piece l = (lines : List MeaningAt) → AreNotedLines lines l.fn.self l.fn.cache []
    → ArePiecesOf (λ lines (piece : Vec ReadLine Global).
    AreReadSo l.fn.self.seed l.fn.cache lines piece.items) l.batch l.fn.pieces.items
    → IsNotedUpTo l.fn.self.seed l.fn.cache lines l.batch l.at [] l.piece-iterator.rest.items
    l.self l.cache
