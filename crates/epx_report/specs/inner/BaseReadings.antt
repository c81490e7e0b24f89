-- A base, read line by line.
use Rattle.std.specs.Prelude.{◌≡◌, ℕ, ℤ, ◌+◌, List, [], ◌∷◌, Option, Some, None, Result, Ok, Err}
use Rattle.std.specs.Prelude.{option_and_then, if◌then◌else◌}
use Rattle.std.specs.FinMap as contents
use Rattle.epx_types.specs.declared.id.Id.{Id}
use Rattle.epx_types.specs.Contents.{Contents}
use Rattle.epx_lines.specs.Lines.{lines_of}
use Rattle.epx_report.specs.declared.from_value.BaseLine.{BaseLine}
use Rattle.epx_report.specs.Forms.{base_line_of}
use Rattle.epx_report.specs.between.PutPairs.{put_pairs}
use Rattle.epx_report.specs.inner.Progress.{Progress, nothing_seen, after, is_complete}

-- the state after one more line, if the line is allowed at its position
abbrev pub after_line : Progress → List ℕ → Option Progress
after_line s bytes = option_and_then (after s) (base_line_of bytes)

-- the state after all lines, if each is allowed at its position
abbrev pub after_all : Progress → List BaseLine → Option Progress
after_all s [] = Some s
after_all s (l ∷ ls) = option_and_then (λ t. after_all t ls) (after s l)

-- `next` of the state, if the line was allowed at its position, and the line's number otherwise
abbrev pub or_line_number : {S : Type 0} → ℕ → Option S → (S → Result S ℕ) → Result S ℕ
or_line_number n None next = Err n
or_line_number n (Some s) next = next s

-- what all lines say, or the number of the first line that is not allowed at its position; if the
-- text ends too early, this is the number of the missing line; the first line has the number n
abbrev pub reading : Progress → ℕ → List (List ℕ) → Result Progress ℕ
reading s n [] = if is_complete s then Ok s else Err n
reading s n (l ∷ ls) = or_line_number n (after_line s l) (λ t. reading t (n + 1) ls)

-- what all lines of the bytes say; the first line has the number 1
abbrev pub base_reading : List ℕ → Result Progress ℕ
base_reading bytes = reading nothing_seen 1 (lines_of bytes)

-- the bytes read as a base of these instances and contents
pub record IsReadBase (bytes : List ℕ) (done : List Id) (stored : Contents) : Type 0 where
  pub seen : Progress
  pub read : base_reading bytes ≡ Ok seen
  pub done_is : done ≡ seen.done
  pub stored_is : stored ≡ put_pairs seen.stored contents.empty
