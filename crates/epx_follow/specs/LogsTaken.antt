-- The text that is written while logs are followed, line by line.
use Rattle.std.specs.Prelude.{◌≡◌, ℕ, Bool, List, [], ◌∷◌, ◌++◌}
use Rattle.epx_lines.specs.Lines.{lines_of}
use Rattle.epx_follow.specs.Following.{FollowerView, at_next_log}
use Rattle.epx_follow.specs.LinesTaken.{TakesLine}

-- the lines are taken one after another, and this text is written
abbrev pub TakesLines : Bool → FollowerView → List (List ℕ) → FollowerView → List ℕ → Type 0
TakesLines each before [] after text = (before ≡ after) × (text ≡ [])
TakesLines each before (line ∷ lines) after text =
    (next : FollowerView) × (first : List ℕ) × (rest : List ℕ)
    × TakesLine each line before next first × TakesLines each next lines after rest
    × (text ≡ first ++ rest)

-- the lines of logs are taken, one log after another, and this text is written. The end of a log
-- ends no batch
abbrev pub TakesLogs : Bool → FollowerView → List (List ℕ) → FollowerView → List ℕ → Type 0
TakesLogs each before [] after text = (before ≡ after) × (text ≡ [])
TakesLogs each before (log ∷ logs) after text =
    (next : FollowerView) × (first : List ℕ) × (rest : List ℕ)
    × TakesLines each before (lines_of log) next first
    × TakesLogs each (at_next_log next) logs after rest × (text ≡ first ++ rest)
