-- What is taken of a part of a log: its whole lines. The beginning of one more is kept.
use Rattle.std.specs.Prelude.{◌≡◌, ◌⊎◌, ℕ, Bool, List, [], ◌++◌, Option}
use Rattle.std.specs.Io.KnownBytes.{Appends}
use Rattle.epx_types.specs.declared.fault.Fault.{Fault}
use Rattle.epx_types.specs.declared.fault.Fault.TheVariants.{Memory}
use Rattle.epx_lines.specs.Lines.{lines_of}
use Rattle.epx_merge.specs.LogParts.{EndsLine}
use Rattle.epx_follow.specs.Following.{FollowerView}
use Rattle.epx_follow.specs.FollowingStops.{StopsAmong}
use Rattle.epx_follow.specs.LogsTaken.{TakesLines}

-- the lines of the bytes are taken, and their text is written
abbrev pub TakesBytes : Bool → FollowerView → List ℕ → FollowerView → Option (List ℕ)
    → Option (List ℕ) → Type 0
TakesBytes each before bytes after was now =
    (text : List ℕ) × TakesLines each before (lines_of bytes) after text × Appends was now text

-- of the bytes the whole lines are taken, and the others are left
abbrev pub TakesPart : Bool → FollowerView → List ℕ → FollowerView → List ℕ → Option (List ℕ)
    → Option (List ℕ) → Type 0
TakesPart each before bytes after begun was now = (lines : List ℕ) × EndsLine lines
    × (bytes ≡ lines ++ begun) × TakesBytes each before lines after was now

-- one of the whole lines stops it, or it is out of memory once some are taken
abbrev pub StopsInPart : Bool → FollowerView → List ℕ → Fault → Option (List ℕ) → Option (List ℕ)
    → Type 0
StopsInPart each before bytes fault was now = (lines : List ℕ) × (begun : List ℕ)
    × EndsLine lines × (bytes ≡ lines ++ begun)
    × (StopsAmong each before (lines_of lines) fault [] was now
    ⊎ ((fault ≡ Memory) × ((after : FollowerView) × TakesBytes each before lines after was now)))
