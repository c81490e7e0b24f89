-- A run: logs are read from sources, and the answer to them is written to a sink.
use Rattle.std.specs.Prelude.{ℕ, ◌<◌, ◌≤◌, List, length, Result, Ok, Err}
use Rattle.epx_types.specs.declared.fault.Fault.{Fault}
use Rattle.epx_types.specs.declared.fault.Fault.TheVariants.{Read, Write}
use Rattle.epx_types.specs.Instances.{Instance}
use Rattle.epx_types.specs.Limits.{max_logs}
use Rattle.epx_merge.specs.ReadingRefusals.{NoneTooLongBefore}
use Rattle.epx_tool.specs.Answer.{Answers}

-- the faults of a run that writes this answer: the refusal of the logs; `Read` of a log, if there
-- are not too many and no earlier one is too long; or `Write`, if the logs have an answer
abbrev pub IsFaultOfRun : (List (List ℕ) → Result (List ℕ) Fault → Type 0) → List (List ℕ) → Fault
    → Type 0
IsFaultOfRun Answer logs (Read log) = (length logs ≤ max_logs) × (log < length logs)
    × NoneTooLongBefore logs log
IsFaultOfRun Answer logs Write = (text : List ℕ) × Answer logs (Ok text)
IsFaultOfRun Answer logs fault = Answer logs (Err fault)

-- the faults of a run that writes the text `Is` of the committed map
abbrev pub IsRunFault : (List Instance → List ℕ → Type 0) → List (List ℕ) → Fault → Type 0
IsRunFault Is = IsFaultOfRun (Answers Is)
