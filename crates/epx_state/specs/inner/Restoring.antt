-- An executor that is made of the parts of a state.
use Rattle.std.specs.Prelude.{◌≡◌, ◌<◌, ◌+◌, ℕ, List, length, Contains, Some, slice_get}
use Rattle.epx_types.specs.declared.fault.Fault.{Fault}
use Rattle.epx_types.specs.declared.fault.Fault.TheVariants.{Memory, TooManyLogs, LogTooLong}
use Rattle.epx_types.specs.declared.fault.Fault.TheVariants.{BadLine, TooManyInstances, Disagree}
use Rattle.epx_types.specs.declared.fault.Fault.TheVariants.{Read, Write, BadBase}
use Rattle.epx_types.specs.declared.id.Id.{Id}
use Rattle.epx_types.specs.Instances.{Instance}
use Rattle.epx_types.specs.Limits.{max_instances}
use Rattle.epx_state.specs.StateForms.{StateParts}
use Rattle.epx_state.specs.StateFaults.{IsReadyIn}

-- the first of the Ids that is among the done ones has this position
pub record IsFirstAmong (done ids : List Id) (position : ℕ) : Type 0 where
  pub id : Id
  pub there : slice_get ids position ≡ Some id
  pub among : Contains done id
  pub first : (k : ℕ) (x : Id) → k < position → slice_get ids k ≡ Some x → ¬ Contains done x

-- the line is that of the first instance that is ready and so cannot wait
pub record IsFirstReady (p : StateParts) (line : ℕ) : Type 0 where
  -- its position in the list of those that wait
  pub number : ℕ
  pub ready : Instance
  pub there : slice_get p.waiting number ≡ Some ready
  pub is_ready : IsReadyIn p ready
  pub first : (k : ℕ) (e : Instance) → k < number → slice_get p.waiting k ≡ Some e
      → ¬ IsReadyIn p e
  pub line_is : line ≡ 2 + length p.runs + number

-- why no executor holds the parts
abbrev pub IsRestoreFault : StateParts → Fault → Type 0
IsRestoreFault p Memory = Unit {0}
IsRestoreFault p (BadBase line) = IsFirstReady p line
IsRestoreFault p TooManyInstances = max_instances < length p.waiting
IsRestoreFault p TooManyLogs = ⊥
IsRestoreFault p (LogTooLong log) = ⊥
IsRestoreFault p (BadLine place why) = ⊥
IsRestoreFault p (Disagree id first second) = ⊥
IsRestoreFault p (Read log) = ⊥
IsRestoreFault p Write = ⊥
