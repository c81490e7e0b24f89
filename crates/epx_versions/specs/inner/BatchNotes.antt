-- How far a batch is noted.
use Rattle.std.specs.Prelude.{◌≡◌, ◌++◌, ℕ, [], List, Result, Some, Vec, length, slice_get}
use Rattle.std.specs.declared.alloc.Global.{Global}
use Rattle.epx_seed.specs.declared.Seed.{Seed}
use Rattle.epx_types.specs.declared.fault.Why.{Why}
use Rattle.epx_lines.specs.declared.Line.{Line}
use Rattle.epx_merge.specs.between.LinePieces.{ArePiecesOf}
use Rattle.epx_merge.specs.LogLines.{MeaningAt}
use Rattle.epx_versions.specs.declared.read_line.ReadLine.{ReadLine}
use Rattle.epx_versions.specs.declared.version_notes.VersionNotes.{VersionNotes}
use Rattle.epx_versions.specs.between.NotedLines.{AreNotedLines}
use Rattle.epx_versions.specs.between.ReadMeanings.{AreReadSo}

-- each line of the old cache has its number in the new one
abbrev pub KeepsNumbers : List (Result Line Why) → List (Result Line Why) → Type 0
KeepsNumbers old new =
    (n : ℕ) (m : Result Line Why) → slice_get old n ≡ Some m → slice_get new n ≡ Some m

-- the lines of a batch before this index are noted after some lines. The next lines were read so,
-- and then those of the pieces, beside the cache that was known before the batch
pub record IsNotedUpTo (seed : Seed) (known : List (Result Line Why)) (lines batch : List MeaningAt)
    (at : ℕ) (reads : List ReadLine) (pieces : List (Vec ReadLine Global)) (notes : VersionNotes)
    (cache : List (Result Line Why)) : Type 0 where
  pub done : List MeaningAt
  pub here : List MeaningAt
  pub rest : List MeaningAt
  pub whole : batch ≡ done ++ (here ++ rest)
  pub place : at ≡ length done
  pub said : AreReadSo seed known here reads
  pub later : ArePiecesOf (λ lines piece. AreReadSo seed known lines piece.items) rest pieces
  pub noted : AreNotedLines (lines ++ done) notes cache []
  pub same : notes.seed ≡ seed
  pub grown : KeepsNumbers known cache
