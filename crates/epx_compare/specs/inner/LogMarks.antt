-- Which instances a log has lines of, by rows.
use Rattle.std.specs.Prelude.{◌≡◌, ℕ, ◌==◌, ◌&&◌, Bool, List, Some, slice_get, slice_index}
use Rattle.std.specs.Prelude.{slice_index_or}
use Rattle.std.specs.Int.{bit_at}
use Rattle.epx_types.specs.declared.id.Id.{Id}
use Rattle.epx_compare.specs.declared.log_set.LogSet.{LogSet}
use Rattle.epx_versions.specs.declared.noted.NotedLine.{NotedLine}

-- the row is of this log, and of the instance at this position
abbrev pub is_line_in : List ℕ → ℕ → ℕ → NotedLine → Bool
is_line_in positions log k row = (row.place.log == log) && (slice_index positions row.version == k)

-- the log is in the set
abbrev pub has_log : ℕ → LogSet → Bool
has_log log set = bit_at set.bits log == 1

-- the log is in the set at this position
abbrev pub is_log_marked : ℕ → List LogSet → ℕ → Bool
is_log_marked log marks k = has_log log (slice_index_or marks k (record { bits = 0 }))

-- the sets with the log say which of the Ids pass the test
abbrev pub IsMarking : (Id → Bool) → ℕ → List Id → List LogSet → Type 0
IsMarking has log ids marks = (k : ℕ) (x : Id) → slice_get ids k ≡ Some x
    → has x ≡ is_log_marked log marks k
