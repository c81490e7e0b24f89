-- How far the lines of sources are gathered.
use Rattle.std.specs.Prelude.{◌≡◌, ◌≤◌, ◌<◌, ◌+◌, ◌-◌, ◌*◌, ◌++◌, ◌⊎◌, [], ℕ, List}
use Rattle.std.specs.Prelude.{length, slice_index_or, slice_set}
use Rattle.epx_devices.specs.Models.{SourceModel}
use Rattle.epx_devices.specs.between.LogParts.{IsReadUpTo}
use Rattle.epx_lines.specs.Lines.{lines_of}
use Rattle.epx_types.specs.Limits.{max_log_bytes}
use Rattle.epx_merge.specs.LogLines.{MeaningAt}
use Rattle.epx_merge.specs.LogParts.{EndsLine, lines_so_far}
use Rattle.epx_merge.specs.declared.gathered_lines.ReadPosition.{ReadPosition}
use Rattle.epx_merge.specs.between.SourceReadings.{AreDeliveredUpTo}

-- the source after these logs is as it was, or these bytes of it are read
abbrev pub IsNextBegun : {S : Type 0} → SourceModel S → List S → List S → ℕ → List ℕ → Type 0
IsNextBegun D before now n bytes = ((now ≡ before) × (bytes ≡ []))
    ⊎ ((source : _) × (n < length before) × (now ≡ slice_set before n source)
    × IsReadUpTo D (slice_index_or before n source) source bytes
    × (length bytes ≤ max_log_bytes))

-- these logs are read to their ends, and of the next one these bytes
pub record AreReadOnward {S : Type 0} (D : SourceModel S) (first now : List S)
    (ended : List (List ℕ)) (bytes : List ℕ) : Type 0 where
  pub before : List S
  pub read : AreDeliveredUpTo D first before (length ended) ended
  pub begun : IsNextBegun D before now (length ended) bytes

-- the lines up to this position are gathered
pub record AreGathered {S : Type 0} (D : SourceModel S) (first now : List S) (at : ReadPosition)
    (lines : List MeaningAt) : Type 0 where
  pub ended : List (List ℕ)
  pub begun : List ℕ
  pub log : at.log ≡ length ended
  pub line : at.line ≡ length (lines_of begun)
  pub done : at.done ≡ length begun
  pub whole : EndsLine begun
  pub gathered : lines ≡ lines_so_far ended begun
  pub read : AreReadOnward D first now ended (begun ++ at.rest.items)

-- a number that falls as so many sources are read
abbrev pub most_unread : ℕ → ReadPosition → ℕ
most_unread count at = (count - at.log) * (max_log_bytes + 2) - (at.done + length at.rest.items)
