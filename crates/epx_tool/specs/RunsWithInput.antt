-- A run over logs and an extra input. The logs are read from their sources, then the input from
-- its own, and the answer is written to a sink.
use Rattle.std.specs.Prelude.{ℕ, ◌<◌, ◌≤◌, List, [], ◌∷◌, ◌++◌, length, Ok}
use Rattle.epx_types.specs.declared.fault.Fault.{Fault}
use Rattle.epx_types.specs.declared.fault.Fault.TheVariants.{Memory, TooManyLogs, LogTooLong, Read}
use Rattle.epx_types.specs.declared.fault.Fault.TheVariants.{Write}
use Rattle.epx_types.specs.Instances.{Instance}
use Rattle.epx_types.specs.Limits.{max_logs}
use Rattle.epx_merge.specs.Refusals.{IsFirstTooLong}
use Rattle.epx_merge.specs.ReadingRefusals.{NoneTooLongBefore}
use Rattle.epx_tool.specs.WithInput.{AnswersWithInput, IsRefusalWithInput}

-- the source of this number, that of a log or of the extra input, whose number is the number of
-- logs, can fail: there are not too many logs, and no text before it is too long
abbrev pub CanBeUnread : List ℕ → List (List ℕ) → ℕ → Type 0
CanBeUnread input logs log = (length logs ≤ max_logs) × (log ≤ length logs)
    × NoneTooLongBefore (logs ++ input ∷ []) log

-- the faults of reading the logs and then the extra input: too many logs, the first text that is
-- too long, or one that cannot be read and has none before it that is too long; or out of memory
abbrev pub IsReadingRefusalWithInput : List ℕ → List (List ℕ) → Fault → Type 0
IsReadingRefusalWithInput input logs Memory = Unit {0}
IsReadingRefusalWithInput input logs TooManyLogs = max_logs < length logs
IsReadingRefusalWithInput input logs (LogTooLong log) = (length logs ≤ max_logs)
    × IsFirstTooLong (logs ++ input ∷ []) log
IsReadingRefusalWithInput input logs (Read log) = CanBeUnread input logs log
IsReadingRefusalWithInput input logs _ = ⊥

-- the faults of a run over logs and an extra input: their refusal; `Read` of one of them
-- (`CanBeUnread`); or `Write`, if they have an answer
abbrev pub IsRunFaultWithInput : (List ℕ → ℕ → Type 0) → (List ℕ → List Instance → List ℕ → Type 0)
    → List ℕ → List (List ℕ) → Fault → Type 0
IsRunFaultWithInput IsBad Is input logs (Read log) = CanBeUnread input logs log
IsRunFaultWithInput IsBad Is input logs Write = (text : List ℕ)
    × AnswersWithInput IsBad Is input logs (Ok text)
IsRunFaultWithInput IsBad Is input logs fault = IsRefusalWithInput IsBad input logs fault
