-- What an executor goes on from: a state, or an earlier report.
use Rattle.std.specs.Prelude.{◌≡◌, ◌⊎◌, ◌↔◌, ◌+◌, ℕ, List, [], ◌∷◌, length, Some, Contains}
use Rattle.epx_types.specs.declared.fault.Fault.{Fault}
use Rattle.epx_types.specs.declared.id.Id.{Id}
use Rattle.epx_types.specs.Contents.{Contents}
use Rattle.epx_lines.specs.Lines.{lines_of}
use Rattle.epx_report.specs.declared.base.BaseFault.{BaseFault}
use Rattle.epx_report.specs.Bases.{IsBase, IsBaseFault, fault_of}
use Rattle.epx_executor.specs.Commits.{ExecutorView}
use Rattle.epx_state.specs.declared.forms.StateCounts.{StateCounts}
use Rattle.epx_state.specs.StateFaults.{IsStateFault}
use Rattle.epx_state.specs.StateForms.{StateParts, counts_of_line}
use Rattle.epx_state.specs.States.{HoldsState, IsState}

-- the first line says the counts of a state
pub record BeginsAsState (bytes : List ℕ) : Type 0 where
  pub first : List ℕ
  pub rest : List (List ℕ)
  pub counts : StateCounts
  pub cut : lines_of bytes ≡ first ∷ rest
  pub said : counts_of_line first ≡ Some counts

-- The executor holds what a report says: the executed instances and the store. Nothing waits, since
-- a report does not say what the instances that wait commit
pub record HoldsReport (executed : List Id) (stored : Contents) (v : ExecutorView) : Type 0 where
  pub done : (x : Id) → Contains v.done x ↔ Contains executed x
  pub store : v.store ≡ stored
  pub pending : v.pending ≡ []

-- The executor holds what the bytes say, a state or an earlier report. `line` is the one at which
-- the waiting instances of a state begin, after its runs; it is 1 for a report
abbrev pub GoesOnFrom : List ℕ → ExecutorView → ℕ → Type 0
GoesOnFrom bytes v line =
    ((p : StateParts) × IsState bytes p × HoldsState p v × (line ≡ 2 + length p.runs))
    ⊎ ((executed : List Id) × (stored : Contents) × IsBase bytes executed stored
    × HoldsReport executed stored v × (line ≡ 1))

-- the fault of bytes that are no earlier report: their first bad line. Out of memory says nothing
-- about them
abbrev pub IsReportFault : List ℕ → Fault → Type 0
IsReportFault bytes fault = (why : BaseFault) × IsBaseFault bytes why × (fault ≡ fault_of why)

-- why bytes are refused: as a state if they begin as one, and as an earlier report otherwise
abbrev pub IsStartFault : List ℕ → Fault → Type 0
IsStartFault bytes fault = (BeginsAsState bytes × IsStateFault bytes fault)
    ⊎ ((¬ BeginsAsState bytes) × IsReportFault bytes fault)
