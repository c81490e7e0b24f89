-- Logs whose lines are noted.
use Rattle.std.specs.Prelude.{◌≡◌, ℕ, List, length}
use Rattle.epx_merge.specs.LogLines.{bad_lines_of, placed_of}
use Rattle.epx_merge.specs.Refusals.{FitLimits}
use Rattle.epx_versions.specs.declared.noted.Noted.{Noted}
use Rattle.epx_versions.specs.between.NotedRows.{AreNoted}

-- there are so many logs, neither too many nor too long, and their lines are noted
pub record AreNotedLogs (logs : List (List ℕ)) (count : ℕ) (noted : Noted) : Type 0 where
  pub fit : FitLimits logs
  pub as_many : length logs ≡ count
  pub rows : AreNoted (placed_of logs) (bad_lines_of logs) noted
