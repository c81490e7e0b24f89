-- Why bytes are refused as a state.
use Rattle.std.specs.Prelude.{◌≡◌, ◌⊎◌, ◌<◌, ◌+◌, ℕ, List, length, Some, slice_get}
use Rattle.epx_types.specs.declared.fault.Fault.{Fault}
use Rattle.epx_types.specs.declared.fault.Fault.TheVariants.{Memory, TooManyLogs, LogTooLong}
use Rattle.epx_types.specs.declared.fault.Fault.TheVariants.{BadLine, TooManyInstances, Disagree}
use Rattle.epx_types.specs.declared.fault.Fault.TheVariants.{Read, Write, BadBase}
use Rattle.epx_types.specs.Done.{remaining}
use Rattle.epx_types.specs.Instances.{Instance}
use Rattle.epx_types.specs.Limits.{max_instances}
use Rattle.epx_types.specs.Readiness.{IsReady}
use Rattle.epx_lines.specs.Lines.{lines_of}
use Rattle.epx_report.specs.BadLines.{IsFirstNotGood}
use Rattle.epx_executor.specs.Runs.{ids_in}
use Rattle.epx_state.specs.StateForms.{StateParts}
use Rattle.epx_state.specs.States.{BeginState, IsState}

-- the lines begin a state, but some are missing at the end; `line` is the number of the first one
pub record StateEndsEarly (bytes : List ℕ) (line : ℕ) : Type 0 where
  pub line_is : line ≡ length (lines_of bytes) + 1
  pub begins : BeginState (lines_of bytes)
  pub not_whole : (p : StateParts) → ¬ IsState bytes p

-- once the instances of the runs are executed, this one is ready, so it cannot wait
abbrev pub IsReadyIn : StateParts → Instance → Type 0
IsReadyIn p e = IsReady (remaining (ids_in p.runs) p.waiting) e.id

-- the line is that of the first instance that is ready and so cannot wait
pub record HasReady (bytes : List ℕ) (line : ℕ) : Type 0 where
  pub parts : StateParts
  pub whole : IsState bytes parts
  -- its position in the list of those that wait
  pub number : ℕ
  pub ready : Instance
  pub there : slice_get parts.waiting number ≡ Some ready
  pub is_ready : IsReadyIn parts ready
  pub first : (k : ℕ) (e : Instance) → k < number → slice_get parts.waiting k ≡ Some e
      → ¬ IsReadyIn parts e
  pub line_is : line ≡ 2 + length parts.runs + number

-- `line` is the number of the first line that may not follow the lines before it, or one more than
-- the number of lines if the text ends too early, or the line of the first waiting instance that is
-- ready
abbrev pub IsBadState : List ℕ → ℕ → Type 0
IsBadState bytes line = IsFirstNotGood BeginState (lines_of bytes) line
    ⊎ StateEndsEarly bytes line ⊎ HasReady bytes line

-- the bytes are a state in which more than `max_instances` instances wait
abbrev pub HoldsTooMany : List ℕ → Type 0
HoldsTooMany bytes = (p : StateParts) × IsState bytes p × (max_instances < length p.waiting)

-- why bytes are refused as a state: they are bad at a line, or too many instances wait. `Memory`
-- says nothing about them
abbrev pub IsStateFault : List ℕ → Fault → Type 0
IsStateFault bytes Memory = Unit {0}
IsStateFault bytes (BadBase line) = IsBadState bytes line
IsStateFault bytes TooManyInstances = HoldsTooMany bytes
IsStateFault bytes TooManyLogs = ⊥
IsStateFault bytes (LogTooLong log) = ⊥
IsStateFault bytes (BadLine place why) = ⊥
IsStateFault bytes (Disagree id first second) = ⊥
IsStateFault bytes (Read log) = ⊥
IsStateFault bytes Write = ⊥
