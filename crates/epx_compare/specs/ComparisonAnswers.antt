-- The answer to logs that are compared: what they say against each other, or the first refusal.
use Rattle.std.specs.Prelude.{◌≡◌, ◌↔◌, ℕ, ◌<◌, ◌≤◌, true, List, length, Result, Ok, Err}
use Rattle.epx_types.specs.declared.fault.Fault.{Fault}
use Rattle.epx_types.specs.declared.fault.Fault.TheVariants.{Memory, TooManyLogs, LogTooLong}
use Rattle.epx_types.specs.declared.fault.Fault.TheVariants.{TooManyInstances}
use Rattle.epx_types.specs.Limits.{max_logs}
use Rattle.epx_merge.specs.LogLines.{placed_of}
use Rattle.epx_committed.specs.InstanceCounts.{FewInstances, ManyInstances}
use Rattle.epx_merge.specs.Refusals.{FitLimits, IsFirstTooLong}
use Rattle.epx_compare.specs.declared.comparison.Comparison.{Comparison}
use Rattle.epx_compare.specs.Comparisons.{HasFindings, IsComparison}

-- why logs are not compared: there are too many, else the first that is too long, else too many
-- instances. `Memory` says nothing of the logs. Bad lines and lines that differ are no reason
abbrev pub IsComparisonRefusal : List (List ℕ) → Fault → Type 0
IsComparisonRefusal logs Memory = Unit {0}
IsComparisonRefusal logs TooManyLogs = max_logs < length logs
IsComparisonRefusal logs (LogTooLong log) = (length logs ≤ max_logs) × IsFirstTooLong logs log
IsComparisonRefusal logs TooManyInstances = FitLimits logs × ManyInstances (placed_of logs)
IsComparisonRefusal logs _ = ⊥

-- the text compares the logs, which are neither too many nor too long, and name few enough
-- instances
pub record IsComparisonOf (logs : List (List ℕ)) (text : List ℕ) : Type 0 where
  pub fit : FitLimits logs
  pub few : FewInstances (placed_of logs)
  pub compared : IsComparison logs text

-- the result is a text that compares the logs (`IsComparisonOf`), or a fault for which they are not
-- compared (`IsComparisonRefusal`)
abbrev pub Compares : List (List ℕ) → Result (List ℕ) Fault → Type 0
Compares logs (Ok text) = IsComparisonOf logs text
Compares logs (Err fault) = IsComparisonRefusal logs fault

-- the result is a text that compares the logs, and `has_findings`, which is true exactly if
-- something is wrong with them (`HasFindings`); or a fault of `IsComparisonRefusal`
abbrev pub IsComparisonResult : List (List ℕ) → Result Comparison Fault → Type 0
IsComparisonResult logs (Ok c) =
    Compares logs (Ok c.text.items) × ((c.has_findings ≡ true) ↔ HasFindings logs)
IsComparisonResult logs (Err fault) = Compares logs (Err fault)
