-- The state from which following logs goes on.
use Rattle.std.proofs.Common.{◌≡◌, ◌≢◌, ◌⊎◌, ◌<◌, ◌≤◌, ◌+◌, ◌^◌, ◌∙◌, ◌++◌, inl, inr, ℕ, List, map}
use Rattle.std.proofs.Common.{length, Option, Some, None, subst, sym, ap, arith}
use Rattle.epx_types.proofs.Common.{length-append, length-map}
use Rattle.epx_types.specs.declared.fault.Fault.{Fault}
use Rattle.epx_types.specs.declared.fault.Fault.TheVariants.{Write}
use Rattle.epx_devices.specs.Deliveries.{DeliversAll}
use Rattle.epx_devices.specs.Models.{OpenerModel, SourceModel}
use Rattle.epx_merge.proofs.LogPartLemmas.{length-lines_of_bound}
use Rattle.epx_report.specs.Bases.{fault_of}
use Rattle.epx_report.specs.declared.base.BaseFault.{BaseFault}
use Rattle.epx_report.specs.declared.base.BaseFault.TheVariants.{Memory, Bad}
use Rattle.epx_executor.specs.Commits.{ExecutorView}
use Rattle.epx_follow.specs.FollowingStops.{most_followed_bytes}
use Rattle.epx_state.specs.StateForms.{entry_of_line, run_of_line}
use Rattle.epx_state.specs.Starts.{GoesOnFrom, IsStartFault}
use Rattle.epx_state.specs.StateFaults.{IsStateFault}
use Rattle.epx_program.specs.FollowStops.{CannotRead, RefusesState}
use Rattle.epx_program.specs.SourcesAt.{IsSourceAt, SourceAt, model_at}
use Rattle.epx_program.specs.inner.Follows.{RefusesStart}

-- if each line says one thing, there are as many lines as things said
as_many : {A : Type 0} (f : List ℕ → Option A) (lines : List (List ℕ)) (said : List A)
    → map f lines ≡ map Some said → length lines ≡ length said
as_many f lines said e =
    sym (length-map lines f) ∙ ap length e ∙ length-map said Some

-- the line of the first instance that waits, and how many wait, are no more than the bytes allow
pub GoesOnFrom-within : (bytes : List ℕ) (v : ExecutorView) (line : ℕ) → GoesOnFrom bytes v line
    → length bytes ≤ most_followed_bytes → line + length v.pending < 2 ^ 63
GoesOnFrom-within bytes v line (inl state) bound =
    let said = state.1.said in
    let p = state.0 in
    let behind = said.waiting ++ said.stored in
    omega (
      arith,
      bound,
      length-lines_of_bound bytes,
      ap length said.cut,
      length-append said.runs behind,
      length-append said.waiting said.stored,
      as_many run_of_line said.runs p.runs said.runs_said,
      as_many entry_of_line said.waiting p.waiting said.waiting_said,
      ap length state.2.pending,
      state.3,
    )
GoesOnFrom-within bytes v line (inr report) bound =
    omega (arith, ap length report.3.pending, report.4)

-- why the state at a path is refused, from what its source delivered
pub RefusesState-from_source : {O F I : Type 0} (opening : OpenerModel O F) (D : SourceModel F)
    (opener : O)
    (E : SourceModel I) (state : List ℕ) (log : ℕ) (input left : Option I)
    (source last : SourceAt O F I) (fault : Fault) → IsSourceAt opener state input left source
    → CannotRead (model_at opening D E) log source last fault
    ⊎ ((bytes : List ℕ) × DeliversAll (model_at opening D E) source last bytes
    × IsStartFault bytes fault) → RefusesState opening D opener E state log input fault
RefusesState-from_source opening D opener E state log input left source last fault at refused =
    record {
      left = left;
      source = source;
      last = last;
      at = at;
      refused = refused;
    }

no_base_fault : (why : BaseFault) → fault_of why ≢ Write
no_base_fault Memory e = cc e
no_base_fault (Bad line) e = cc e

-- a state is not refused with the fault of the output
pub RefusesStart-not_write : {O F I : Type 0} (opening : OpenerModel O F) (D : SourceModel F)
    (opener : O) (E : SourceModel I) (state : Option (List ℕ)) (log : ℕ) (input : Option I)
    (fault : Fault) → RefusesStart opening D opener E state log input fault → fault ≢ Write
RefusesStart-not_write opening D opener E None log input fault bad write = bad
RefusesStart-not_write opening D opener E (Some state) log input fault bad write =
    elim bad.refused [
      | inl (inl memory) ↦ cc (sym memory ∙ write)
      | inl (inr (inl long)) ↦ cc (sym long.0 ∙ write)
      | inl (inr (inr read)) ↦ cc (sym read.0 ∙ write)
      | inr none ↦ elim none.2 [
        | inl as_state ↦ subst (λ (f : Fault). IsStateFault none.0 f) write as_state.1
        | inr as_report ↦ no_base_fault as_report.1.0 (sym as_report.1.2 ∙ write)
      ]
    ]
