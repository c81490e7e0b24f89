-- What a replica says, read line by line.
use Rattle.std.specs.Prelude.{ℕ, ◌+◌, ◌==◌, ℤ, List, [], ◌∷◌, ◌++◌, length, Option}
use Rattle.std.specs.Prelude.{option_map, option_and_then, Result, Ok}
use Rattle.epx_types.specs.declared.id.Id.{Id}
use Rattle.epx_types.specs.declared.reply.Reply.{Reply}
use Rattle.epx_types.specs.Keys.{key_cmp}
use Rattle.epx_lines.specs.Lines.{lines_of}
use Rattle.epx_report.specs.inner.Progress.{last, is_after_last, some_if}
use Rattle.epx_report.specs.inner.BaseReadings.{or_line_number}
use Rattle.epx_verify.specs.declared.said_line.SaidLine.{SaidLine}
use Rattle.epx_verify.specs.declared.said_line.SaidLine.TheVariants.{Replied, Stored}
use Rattle.epx_verify.specs.SaidLines.{said_line_of}

-- what the lines so far say
pub record SaidSoFar : Type 0 where
  pub replies : List (Id × Reply)
  pub stored : List (List ℕ × ℤ)

-- before the first line
abbrev pub nothing_said : SaidSoFar
nothing_said = record { replies = []; stored = [] }

-- a reply line comes before all store lines
abbrev pub after_replied : SaidSoFar → Id → Reply → Option SaidSoFar
after_replied s x r =
    some_if (length s.stored == 0) (record s { replies = s.replies ++ (x, r) ∷ [] })

-- a store line has a greater key than the last one
abbrev pub after_stored : SaidSoFar → List ℕ → ℤ → Option SaidSoFar
after_stored s k v = some_if (is_after_last key_cmp (option_map (λ e. e.0) (last s.stored)) k)
    (record s { stored = s.stored ++ (k, v) ∷ [] })

-- the state after one more line, if the line is allowed at its position
unfoldable pub after_said : SaidSoFar → SaidLine → Option SaidSoFar
after_said s (Replied x r) = after_replied s x r
after_said s (Stored k v) = after_stored s k v

-- the state after the line with these bytes, if the line is allowed at its position
abbrev pub after_said_line : SaidSoFar → List ℕ → Option SaidSoFar
after_said_line s bytes = option_and_then (after_said s) (said_line_of bytes)

-- the state after all lines, or the number of the first line that is not allowed at its position;
-- the first line has the number n
abbrev pub read_said_lines : SaidSoFar → ℕ → List (List ℕ) → Result SaidSoFar ℕ
read_said_lines s n [] = Ok s
read_said_lines s n (l ∷ ls) =
    or_line_number n (after_said_line s l) (λ t. read_said_lines t (n + 1) ls)

-- what all lines of the bytes say; the first line has the number 1
abbrev pub said_reading : List ℕ → Result SaidSoFar ℕ
said_reading bytes = read_said_lines nothing_said 1 (lines_of bytes)
