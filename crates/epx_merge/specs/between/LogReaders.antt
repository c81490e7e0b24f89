-- What a reader of logs has read, whatever notes their lines.
use Rattle.std.specs.Prelude.{[], Bool, List, Result, MatchResult}
use Rattle.epx_types.specs.declared.fault.Fault.{Fault}
use Rattle.epx_types.specs.declared.fault.Why.{Why}
use Rattle.epx_lines.specs.declared.Line.{Line}
use Rattle.epx_merge.specs.declared.log_reader.LogReader.{LogReader}
use Rattle.epx_merge.specs.declared.log_reader.ReadLines.{ReadLines}
use Rattle.epx_merge.specs.LogLines.{MeaningAt}
use Rattle.epx_merge.specs.between.ReadFaults.{IsReadFault, refused_among}

-- the type of a relation between lines that are read, the notes of them, a cache of meanings, and
-- the pieces that are not noted yet
abbrev pub NoteRelation : Type 0 → Type 0 → Type 1
NoteRelation N P = List MeaningAt → N → List (Result Line Why) → List P → Type 0

-- the result of reading the lines: `has_read` relates them to what is read, or the fault is the
-- first bad line, if `refuses` is true, or out of memory
abbrev pub IsReading : {N P S : Type 0} → NoteRelation N P → Bool → List MeaningAt
    → Result (ReadLines N P S) Fault → Type 0
IsReading has_read refuses lines result = MatchResult result
    (λ r. has_read lines r.notes r.cache r.pending.items)
    (IsReadFault (refused_among refuses lines))

-- what the reader has is the result of reading these lines (`IsReading`)
abbrev pub HasRead : {N P S : Type 0} → NoteRelation N P → Bool → List MeaningAt
    → LogReader N P S → Type 0
HasRead has_read refuses lines reader = IsReading has_read refuses lines reader.read

-- `has_read` relates the lines to the notes, with some cache and no pieces: all lines are noted
abbrev pub HasNoted : {N P : Type 0} → NoteRelation N P → List MeaningAt → N → Type 0
HasNoted has_read lines notes = (cache : List (Result Line Why)) × has_read lines notes cache []

-- the result of noting the lines: the notes have all of them, or the fault is the first bad line,
-- if `refuses` is true, or out of memory
abbrev pub IsNoting : {N P : Type 0} → NoteRelation N P → Bool → List MeaningAt → Result N Fault
    → Type 0
IsNoting has_read refuses lines result = MatchResult result (HasNoted has_read lines)
    (IsReadFault (refused_among refuses lines))
