-- The lines of logs: the place and meaning of each, those that have an instance, and those that
-- have a fault.
use Rattle.std.specs.Prelude.{ℕ, suc, List, [], ◌∷◌, ◌++◌, map, flat_map, Result, Ok, Err, Vec}
use Rattle.std.specs.declared.alloc.Global.{Global}
use Rattle.epx_types.specs.declared.place.Place.{Place}
use Rattle.epx_types.specs.declared.fault.Why.{Why}
use Rattle.epx_types.specs.PlacedLines.{Placed}
use Rattle.epx_lines.specs.Lines.{lines_of}
use Rattle.epx_lines.specs.Meaning.{meaning_of}
use Rattle.epx_lines.specs.declared.Line.{Line}
use Rattle.epx_lines.specs.declared.Line.TheVariants.{Blank, Entry}

-- the bytes of logs that are in memory
abbrev pub bytes_of : List (Vec ℕ Global) → List (List ℕ)
bytes_of logs = map (λ log. log.items) logs

-- a line's place and its meaning
pub record MeaningAt : Type 0 where
  pub place : Place
  pub meaning : Result Line Why

-- the meaning of the line of these bytes, with its place
abbrev pub meaning_at : Place → List ℕ → MeaningAt
meaning_at place bytes = record { place = place; meaning = meaning_of bytes }

-- the lines of the log with the number `log`, each with its place and its meaning; the first has
-- the line number n
abbrev pub meanings_in : ℕ → ℕ → List (List ℕ) → List MeaningAt
meanings_in log n [] = []
meanings_in log n (l ∷ ls) = meaning_at (record { log = log; line = n }) l
    ∷ meanings_in log (suc n) ls

-- the lines of the logs, each with its place and its meaning; the first log has the number n, and
-- the lines of each log are numbered from 1
abbrev pub meanings_from : ℕ → List (List ℕ) → List MeaningAt
meanings_from n [] = []
meanings_from n (log ∷ logs) = meanings_in n 1 (lines_of log) ++ meanings_from (suc n) logs

-- the lines of all logs by rising place, each with its meaning; logs count from 0 and lines from 1
abbrev pub meanings_of : List (List ℕ) → List MeaningAt
meanings_of logs = meanings_from 0 logs

-- ---- the lines that have an instance

-- a list of the line's instance with its place; empty if the line commits no instance
abbrev pub placed_at : Place → Result Line Why → List Placed
placed_at p (Ok Blank) = []
placed_at p (Ok (Entry e)) = record { place = p; instance = e } ∷ []
placed_at p (Err why) = []

-- of these lines those that commit an instance, each with its place, in their order
abbrev pub placed_among : List MeaningAt → List Placed
placed_among lines = flat_map (λ l. placed_at l.place l.meaning) lines

-- of the lines of all logs those that commit an instance, by rising place
abbrev pub placed_of : List (List ℕ) → List Placed
placed_of logs = placed_among (meanings_of logs)

-- ---- the lines that have a fault

-- a bad line: its place, and the first fault that applies
pub record BadLineAt : Type 0 where
  pub place : Place
  pub why : Why

-- a list of the line's place and its fault; empty if the line is not bad
abbrev pub bad_lines_at : Place → Result Line Why → List BadLineAt
bad_lines_at p (Ok l) = []
bad_lines_at p (Err why) = record { place = p; why = why } ∷ []

-- of these lines the bad ones, each with its place and its fault, in their order
abbrev pub bad_lines_among : List MeaningAt → List BadLineAt
bad_lines_among lines = flat_map (λ l. bad_lines_at l.place l.meaning) lines

-- the bad lines of all logs, each with its place and its fault, by rising place
abbrev pub bad_lines_of : List (List ℕ) → List BadLineAt
bad_lines_of logs = bad_lines_among (meanings_of logs)
