-- What a list of instances is. Each line names an instance or is blank.
use Rattle.std.specs.Prelude.{◌≡◌, ℕ, nat_lt, not, List, length, map, filter, Option, Some, None}
use Rattle.std.specs.Prelude.{option_and_then, if◌then◌else◌}
use Rattle.epx_types.specs.declared.id.Id.{Id}
use Rattle.epx_lines.specs.DependencyList.{id_of}
use Rattle.epx_lines.specs.Lines.{lines_of}
use Rattle.epx_lines.specs.Meaning.{max_line_bytes, is_blank, json_of}
use Rattle.epx_report.specs.BadLines.{IsFirstNotGood}
use Rattle.epx_report.specs.declared.base.BaseFault.{BaseFault}
use Rattle.epx_report.specs.declared.base.BaseFault.TheVariants.{Memory, Bad}

-- the Id that a line `[r,i]` names; None if the line has another form or more than `max_line_bytes`
-- bytes
unfoldable pub listed_id_of : List ℕ → Option Id
listed_id_of bytes = if nat_lt max_line_bytes (length bytes) then None else option_and_then id_of
    (json_of bytes)

-- the lines that are not blank
abbrev pub filled_lines : List (List ℕ) → List (List ℕ)
filled_lines lines = filter (λ l. not (is_blank l)) lines

-- each line that is not blank names an instance; these are the instances, in the order of the lines
abbrev pub LinesName : List (List ℕ) → List Id → Type 0
LinesName lines ids = map listed_id_of (filled_lines lines) ≡ map Some ids

-- the bytes are a list, whose lines name these instances, in order
abbrev pub IsList : List ℕ → List Id → Type 0
IsList bytes ids = LinesName (lines_of bytes) ids

-- each line names an instance or is blank
abbrev pub AreListLines : List (List ℕ) → Type 0
AreListLines lines = (ids : List Id) × LinesName lines ids

-- `line` is the number of the first line that is not blank and names no instance
abbrev pub IsBadList : List ℕ → ℕ → Type 0
IsBadList bytes line = IsFirstNotGood AreListLines (lines_of bytes) line

-- the fault is the line at which the bytes are a bad list, or `Memory`, which says nothing about
-- the bytes
abbrev pub IsListFault : List ℕ → BaseFault → Type 0
IsListFault bytes Memory = Unit {0}
IsListFault bytes (Bad line) = IsBadList bytes line
