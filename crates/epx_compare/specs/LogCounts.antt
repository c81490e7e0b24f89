-- How many lines of a log commit an instance, and how many are bad.
use Rattle.std.specs.Prelude.{ℕ, ◌==◌, List, filter, length}
use Rattle.epx_types.specs.PlacedLines.{Placed}
use Rattle.epx_merge.specs.LogLines.{BadLineAt}

-- how many lines of a log commit an instance; each repeat counts
abbrev pub lines_in : List Placed → ℕ → ℕ
lines_in lines log = length (filter (λ p. p.place.log == log) lines)

-- how many lines of a log are bad
abbrev pub bad_lines_in : List BadLineAt → ℕ → ℕ
bad_lines_in bad log = length (filter (λ b. b.place.log == log) bad)
