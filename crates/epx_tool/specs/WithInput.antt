-- The answer to logs and an extra input, as a base or a list is. For the length limit the input
-- counts as one more log after the others. Its bad lines come after all refusals of the logs.
use Rattle.std.specs.Prelude.{ℕ, ◌<◌, ◌≤◌, List, [], ◌∷◌, ◌++◌, length, Result, Ok, Err}
use Rattle.epx_types.specs.declared.fault.Fault.{Fault}
use Rattle.epx_types.specs.declared.fault.Fault.TheVariants.{Memory, TooManyLogs, LogTooLong}
use Rattle.epx_types.specs.declared.fault.Fault.TheVariants.{BadBase}
use Rattle.epx_types.specs.Instances.{Instance}
use Rattle.epx_types.specs.Limits.{max_logs, max_log_bytes}
use Rattle.epx_merge.specs.Refusals.{IsFirstTooLong, IsRefusal}
use Rattle.epx_merge.specs.Acceptance.{IsAccepted}

-- the bytes are no more than a log may have
abbrev pub IsShort : List ℕ → Type 0
IsShort bytes = length bytes ≤ max_log_bytes

-- the first that applies: too many logs; the first text that is too long; the refusal of the logs;
-- the line of the extra input for which IsBad holds. Out of memory can come instead of any
abbrev pub IsRefusalWithInput : (List ℕ → ℕ → Type 0) → List ℕ → List (List ℕ) → Fault → Type 0
IsRefusalWithInput IsBad input logs Memory = Unit {0}
IsRefusalWithInput IsBad input logs TooManyLogs = max_logs < length logs
IsRefusalWithInput IsBad input logs (LogTooLong log) = (length logs ≤ max_logs)
    × IsFirstTooLong (logs ++ input ∷ []) log
IsRefusalWithInput IsBad input logs (BadBase line) = IsShort input
    × ((m : List Instance) × IsAccepted logs m) × IsBad input line
IsRefusalWithInput IsBad input logs fault = IsShort input × IsRefusal logs fault

-- the answer to logs and an extra input: a text, or the first refusal; Is says which text answers
-- the input and the map that the logs commit
abbrev pub AnswersWithInput : (List ℕ → ℕ → Type 0) → (List ℕ → List Instance → List ℕ → Type 0)
    → List ℕ → List (List ℕ) → Result (List ℕ) Fault → Type 0
AnswersWithInput IsBad Is input logs (Ok text) = IsShort input
    × ((m : List Instance) × IsAccepted logs m × Is input m text)
AnswersWithInput IsBad Is input logs (Err fault) = IsRefusalWithInput IsBad input logs fault
