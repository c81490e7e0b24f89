-- Logs that are read part by part.
use Rattle.std.specs.Prelude.{◌≡◌, ◌⊎◌, [], ◌∷◌, ◌++◌, ℕ, List, length}
use Rattle.epx_lines.specs.Lines.{lines_of}
use Rattle.epx_merge.specs.LogLines.{MeaningAt, meanings_in, meanings_of}

-- the bytes are empty, or end with a line feed
abbrev pub EndsLine : List ℕ → Type 0
EndsLine bytes = (bytes ≡ []) ⊎ ((front : List ℕ) × (bytes ≡ front ++ 10 ∷ []))

-- the lines of logs, and then those of the first bytes of the next log
abbrev pub lines_so_far : List (List ℕ) → List ℕ → List MeaningAt
lines_so_far ended begun = meanings_of ended ++ meanings_in (length ended) 1 (lines_of begun)
