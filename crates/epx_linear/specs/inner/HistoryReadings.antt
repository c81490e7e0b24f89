-- The calls of a history, read line by line.
use Rattle.std.specs.Prelude.{ℕ, ◌+◌, not, List, [], ◌∷◌, ◌++◌, map, Option, Some}
use Rattle.std.specs.Prelude.{option_and_then, Result, Ok, if◌then◌else◌}
use Rattle.epx_types.specs.declared.id.Id.{Id}
use Rattle.epx_types.specs.Done.{is_among}
use Rattle.epx_lines.specs.Lines.{lines_of}
use Rattle.epx_lines.specs.Meaning.{is_blank}
use Rattle.epx_report.specs.Lists.{filled_lines}
use Rattle.epx_report.specs.inner.BaseReadings.{or_line_number}
use Rattle.epx_report.specs.inner.Progress.{some_if}
use Rattle.epx_linear.specs.declared.client_call.ClientCall.{ClientCall}
use Rattle.epx_linear.specs.HistoryLines.{call_line_of}

-- the instances of calls, in the order of the calls
abbrev pub called_ids : List ClientCall → List Id
called_ids h = map (λ c. c.id) h

-- what the lines that are not blank say, each None if it says no call
abbrev pub said_calls : List (List ℕ) → List (Option ClientCall)
said_calls lines = map call_line_of (filled_lines lines)

-- the calls with one more, if no call is of its instance
abbrev pub after_call : List ClientCall → ClientCall → Option (List ClientCall)
after_call h c = some_if (not (is_among (called_ids h) c.id)) (h ++ c ∷ [])

-- the calls with that of one more line; None if the line is not blank, and says no call or calls an
-- instance again
abbrev pub after_call_line : List ClientCall → List ℕ → Option (List ClientCall)
after_call_line h bytes = if is_blank bytes then Some h else option_and_then (after_call h)
    (call_line_of bytes)

-- the calls so far with those of all lines, or the number of the first line for which there are
-- none; the first line has the number n
abbrev pub read_call_lines : List ClientCall → ℕ → List (List ℕ) → Result (List ClientCall) ℕ
read_call_lines h n [] = Ok h
read_call_lines h n (l ∷ ls) =
    or_line_number n (after_call_line h l) (λ more. read_call_lines more (n + 1) ls)

-- the calls of all lines of the bytes; the first line has the number 1
abbrev pub history_reading : List ℕ → Result (List ClientCall) ℕ
history_reading bytes = read_call_lines [] 1 (lines_of bytes)
