-- The result of reading consecutive lines, piece by piece.
use Rattle.std.specs.Prelude.{◌≡◌, ◌⊎◌, ◌++◌, List, [], Result, Ok, Err}
use Rattle.epx_types.specs.PlacedLines.{Placed}
use Rattle.epx_types.specs.declared.fault.Why.{Why}
use Rattle.epx_lines.specs.declared.Line.{Line}
use Rattle.epx_merge.specs.declared.pieces.BadLine.{BadLine}
use Rattle.epx_merge.specs.declared.pieces.ReadPiece.{ReadPiece}
use Rattle.epx_merge.specs.LogLines.{MeaningAt, placed_at, placed_among, bad_lines_at}
use Rattle.epx_merge.specs.LogLines.{bad_lines_among}
use Rattle.epx_merge.specs.between.LinePieces.{ArePiecesOf}
use Rattle.epx_merge.specs.Refusals.{IsFirstBadLine}
use Rattle.epx_merge.specs.between.RedundantLines.{IsRedundantIn, DropsCached}

-- the entries of the piece are those of these lines
abbrev pub HasEntries : List Placed → ReadPiece → Type 0
HasEntries lines piece = piece.entries.items ≡ lines

-- no line is bad, and `held` holds the instances of the lines
pub record IsCleanRead {E : Type 0} (holds : List Placed → E → Type 0) (lines : List MeaningAt)
    (held : E) : Type 0 where
  pub clean : bad_lines_among lines ≡ []
  pub placed : holds (placed_among lines) held

-- this is the first of the lines that is bad, with its fault
abbrev pub IsFirstBad : List MeaningAt → BadLine → Type 0
IsFirstBad lines bad = IsFirstBadLine (bad_lines_among lines) bad.place bad.why

-- the result of reading consecutive lines: their instances, or their first bad line
abbrev pub IsRead : {E : Type 0} → (List Placed → E → Type 0) → List MeaningAt → Result E BadLine
    → Type 0
IsRead holds lines (Ok held) = IsCleanRead holds lines held
IsRead holds lines (Err bad) = IsFirstBad lines bad

-- the results of reading consecutive pieces, which together are the lines
abbrev pub AreRead : {E : Type 0} → (List Placed → E → Type 0) → List MeaningAt
    → List (Result E BadLine) → Type 0
AreRead holds lines pieces = ArePiecesOf (IsRead holds) lines pieces

-- ---- reading beside a cache

-- the line is redundant in the cache and `new` is `old`; or it is not bad, and `new` is `old` with
-- its instance, if it has one, appended
abbrev pub SkipsOrReads : List (Result Line Why) → MeaningAt → List Placed → List Placed → Type 0
SkipsOrReads cache line old new = (IsRedundantIn cache line.meaning × (new ≡ old))
    ⊎ ((bad_lines_at line.place line.meaning ≡ [])
    × (new ≡ old ++ placed_at line.place line.meaning))

-- the result of reading the lines, except for some that are redundant in the cache
abbrev pub IsReadBeside : {E : Type 0} → (List Placed → E → Type 0) → List (Result Line Why)
    → List MeaningAt → Result E BadLine → Type 0
IsReadBeside holds cache lines piece =
    (kept : List MeaningAt) × DropsCached cache lines kept × IsRead holds kept piece

-- the results of reading pieces of the lines, except for some lines that are redundant in the cache
abbrev pub AreReadBeside : {E : Type 0} → (List Placed → E → Type 0) → List (Result Line Why)
    → List MeaningAt → List (Result E BadLine) → Type 0
AreReadBeside holds cache lines pieces = ArePiecesOf (IsReadBeside holds cache) lines pieces
