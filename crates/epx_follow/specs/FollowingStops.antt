-- Why following logs stops before their ends, and what is written then: the text of the batches
-- that ended, and some of the next text where the output failed.
use Rattle.std.specs.Prelude.{◌≡◌, ◌⊎◌, ◌^◌, ◌<◌, ℕ, Bool, List, ◌∷◌, ◌++◌, length, take, Option}
use Rattle.std.specs.Prelude.{slice_get, Some}
use Rattle.std.specs.Io.KnownBytes.{Appends}
use Rattle.epx_types.specs.declared.fault.Fault.{Fault}
use Rattle.epx_types.specs.declared.fault.Fault.TheVariants.{Memory, LogTooLong, Read, Write}
use Rattle.epx_devices.specs.Deliveries.{Delivers, DeliversAll}
use Rattle.epx_devices.specs.Models.{SourceModel}
use Rattle.epx_lines.specs.Lines.{lines_of}
use Rattle.epx_merge.specs.DeliveredLogs.{FirstDeliver, IsOfNoSource}
use Rattle.epx_merge.specs.LogParts.{EndsLine}
use Rattle.epx_follow.specs.Following.{FollowerView}
use Rattle.epx_follow.specs.InputEnds.{EndsInput}
use Rattle.epx_follow.specs.LinesTaken.{RefusesIf, RefusesLine, TakesLine}
use Rattle.epx_follow.specs.LogsTaken.{TakesLines, TakesLogs}

-- the greatest number of bytes of a log that is followed: 2^62
abbrev pub most_followed_bytes : ℕ
most_followed_bytes = 2 ^ 62

-- if the bytes of the output are known, this text and a prefix of the next one are appended
abbrev pub AppendsSome : List ℕ → List ℕ → Option (List ℕ) → Option (List ℕ) → Type 0
AppendsSome text next was now = (n : ℕ) × Appends was now (text ++ take n next)

-- following stops at this line, once `text` is appended to the output: the line is refused, or the
-- output failed and has a prefix of the text of the batch that the line ends
abbrev pub StopsAtLine : Bool → FollowerView → List ℕ → Fault → List ℕ
    → Option (List ℕ) → Option (List ℕ) → Type 0
StopsAtLine each v line fault text was now =
    (RefusesLine each line v fault × Appends was now text)
    ⊎ ((fault ≡ Write) × ((next : FollowerView) × (batch : List ℕ)
    × TakesLine each line v next batch × AppendsSome text batch was now))

-- following stops at one of the lines (`StopsAtLine`), once those before it are taken, and `text`
-- and the texts of their batches are appended to the output
pub record StopsAmong (each : Bool) (v : FollowerView) (lines : List (List ℕ)) (fault : Fault)
    (text : List ℕ) (was now : Option (List ℕ)) : Type 0 where
  pub before : List (List ℕ)
  pub line : List ℕ
  pub after : List (List ℕ)
  pub cut : lines ≡ before ++ line ∷ after
  -- the follower before that line, and the text of the batches that end before it
  pub then : FollowerView
  pub batches : List ℕ
  pub taken : TakesLines each v before then batches
  pub stopped : StopsAtLine each then line fault (text ++ batches) was now

-- reads of the source returned `lines`, which are empty or end with a line feed, and then zero or
-- more further bytes
abbrev pub ReadsLines : {S : Type 0} → SourceModel S → S → S → List ℕ → Type 0
ReadsLines D first now lines = EndsLine lines
    × ((begun : List ℕ) × Delivers D first now (lines ++ begun))

-- reading the log of this number stops with this fault, after reads returned `lines`: out of
-- memory, more than `most_followed_bytes` bytes, or a failed read
abbrev pub StopsReadingOn : {S : Type 0} → SourceModel S → ℕ → S → S → List ℕ → Fault → Type 0
StopsReadingOn D log first now lines fault =
    ((fault ≡ Memory) × ReadsLines D first now lines)
    ⊎ ((fault ≡ LogTooLong log) × ReadsLines D first now lines
    × ((bytes : List ℕ) × Delivers D first now bytes × (most_followed_bytes < length bytes)))
    ⊎ ((fault ≡ Read log) × ((last : _) × ReadsLines D first last lines × D.fails last now))

-- following the log of this number from follower v on, once `text` is written, stops: at one of its
-- lines, or because no more of it is read, after lines that were read are taken and the texts of
-- their batches are appended
abbrev pub StopsWithin : {S : Type 0} → SourceModel S → Bool → ℕ → S → S → FollowerView → Fault
    → List ℕ → Option (List ℕ) → Option (List ℕ) → Type 0
StopsWithin D each log first last v fault text was now = (lines : List ℕ)
    × (((ReadsLines D first last lines ⊎ DeliversAll D first last lines)
    × StopsAmong each v (lines_of lines) fault text was now)
    ⊎ (StopsReadingOn D log first last lines fault
    × ((then : FollowerView) × (batches : List ℕ)
    × TakesLines each v (lines_of lines) then batches × Appends was now (text ++ batches))))

-- following stops at the end of the input, once `text` is written: the open batch is refused,
-- memory runs out, or the output failed and has a prefix of the last text
abbrev pub StopsAtEnd : FollowerView → Fault → List ℕ → Option (List ℕ) → Option (List ℕ) → Type 0
StopsAtEnd v fault text was now = (RefusesIf v.is_open v fault × Appends was now text)
    ⊎ ((fault ≡ Write) × ((last : FollowerView) × (rest : List ℕ)
    × EndsInput v last rest × AppendsSome text rest was now))

-- following the logs of the sources from `start` stops with this fault, before a log, within one,
-- or at the end of the input. The output has the texts of the batches that ended and, if it failed,
-- a prefix of the next text
pub record StopsFollowing {S : Type 0} (D : SourceModel S) (start : FollowerView) (each : Bool)
    (old new : List S) (fault : Fault) (was now : Option (List ℕ)) : Type 0 where
  -- these logs are followed to their ends, and their text is written
  pub logs : List (List ℕ)
  pub whole : FirstDeliver D old new logs
  pub taken : FollowerView
  pub text : List ℕ
  pub lines : TakesLogs each start logs taken text
  -- there are too many sources, it stops within the next log, or no log is left
  pub stopped : (IsOfNoSource (length old) fault × Appends was now text)
      ⊎ ((first : S) × (last : S) × (slice_get old (length logs) ≡ Some first)
      × (slice_get new (length logs) ≡ Some last)
      × StopsWithin D each (length logs) first last taken fault text was now)
      ⊎ ((length logs ≡ length old) × StopsAtEnd taken fault text was now)
