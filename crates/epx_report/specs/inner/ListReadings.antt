-- The instances of a list, read line by line.
use Rattle.std.specs.Prelude.{ℕ, ◌+◌, List, [], ◌∷◌, ◌++◌, Option, Some, option_map, Result, Ok}
use Rattle.std.specs.Prelude.{if◌then◌else◌}
use Rattle.epx_types.specs.declared.id.Id.{Id}
use Rattle.epx_lines.specs.Lines.{lines_of}
use Rattle.epx_lines.specs.Meaning.{is_blank}
use Rattle.epx_report.specs.Lists.{listed_id_of}
use Rattle.epx_report.specs.inner.BaseReadings.{or_line_number}

-- the instances so far with that of one more line; None unless the line is blank or names one
abbrev pub with_line : List Id → List ℕ → Option (List Id)
with_line ids bytes = if is_blank bytes then Some ids else option_map (λ x. ids ++ x ∷ [])
    (listed_id_of bytes)

-- the instances so far with those of all lines, or the number of the first line that is neither
-- blank nor an instance; the first line has the number n
abbrev pub read_list_lines : List Id → ℕ → List (List ℕ) → Result (List Id) ℕ
read_list_lines ids n [] = Ok ids
read_list_lines ids n (l ∷ ls) =
    or_line_number n (with_line ids l) (λ more. read_list_lines more (n + 1) ls)

-- the instances of all lines of the bytes; the first line has the number 1
abbrev pub list_reading : List ℕ → Result (List Id) ℕ
list_reading bytes = read_list_lines [] 1 (lines_of bytes)
