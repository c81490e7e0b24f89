-- An instance that waits in an executor is not ready in its state.
use Rattle.std.proofs.Common.{◌≡◌, ℕ, List, length, refl, sym, ap, ◌∙◌, subst, arith, inl, inr}
use Rattle.epx_types.proofs.Common.{remaining, Instance, IsReady}
use Rattle.epx_types.specs.declared.fault.Fault.TheVariants.{Memory, TooManyLogs, LogTooLong}
use Rattle.epx_types.specs.declared.fault.Fault.TheVariants.{BadLine, TooManyInstances, Disagree}
use Rattle.epx_types.specs.declared.fault.Fault.TheVariants.{Read, Write, BadBase}
use Rattle.epx_executor.specs.Commits.{AllWait, ExecutorView}
use Rattle.epx_executor.specs.Runs.{ids_in}
use Rattle.epx_state.specs.StateForms.{StateParts}
use Rattle.epx_state.specs.States.{HoldsState, IsState}
use Rattle.epx_state.specs.StateFaults.{IsBadState, IsReadyIn}
use Rattle.epx_state.specs.StateLaws.{StateOfAnExecutorIsGood}
use Rattle.epx_state.proofs.SectionLemmas.{StateIsUnique-holds}
use Rattle.epx_state.proofs.BeginningLemmas.{IsFirstNotGood-never}
use Rattle.epx_state.proofs.RunIdLemmas.{remaining-ids_in}

-- what remains of the waiting instances is what remains in the executor
left_alike : (p : StateParts) (v : ExecutorView) → HoldsState p v
    → remaining (ids_in p.runs) p.waiting ≡ remaining v.done v.pending
left_alike p v holds =
    sym (remaining-ids_in v.done p.runs holds.done p.waiting)
    ∙ ap (remaining v.done) (sym holds.pending)

pub IsReadyIn-never : (p : StateParts) (v : ExecutorView) → HoldsState p v → AllWait v
    → (e : Instance) → ¬ IsReadyIn p e
IsReadyIn-never p v holds wait e ready =
    wait.none_ready e.id
    (subst (λ (m : List Instance). IsReady m e.id) (left_alike p v holds) ready)

not_bad : (bytes : List ℕ) (p : StateParts) (v : ExecutorView) → IsState bytes p → HoldsState p v
    → AllWait v → (line : ℕ) → ¬ IsBadState bytes line
not_bad bytes p v is holds wait line bad = elim bad [
  | inl first ↦ IsFirstNotGood-never bytes p is line first
  | inr rest ↦ elim rest [
    | inl early ↦ early.not_whole p is
    | inr has ↦
        let same = StateIsUnique-holds bytes has.parts p has.whole is in
        IsReadyIn-never p v holds wait has.ready
        (subst (λ (s : StateParts). IsReadyIn s has.ready) same has.is_ready)
  ]
]

pub StateOfAnExecutorIsGood-holds : StateOfAnExecutorIsGood
StateOfAnExecutorIsGood-holds bytes p v is holds wait few Memory h = refl
StateOfAnExecutorIsGood-holds bytes p v is holds wait few (BadBase line) h =
    absurd (not_bad bytes p v is holds wait line h)
StateOfAnExecutorIsGood-holds bytes p v is holds wait few TooManyInstances h =
    let same : length h.0.waiting ≡ length v.pending =
    ap (λ (s : StateParts). length s.waiting) (StateIsUnique-holds bytes h.0 p h.1 is)
    ∙ ap length (sym holds.pending) in
    absurd (omega (arith, h.2, few, same))
StateOfAnExecutorIsGood-holds bytes p v is holds wait few TooManyLogs h = absurd h
StateOfAnExecutorIsGood-holds bytes p v is holds wait few (LogTooLong log) h = absurd h
StateOfAnExecutorIsGood-holds bytes p v is holds wait few (BadLine place why) h = absurd h
StateOfAnExecutorIsGood-holds bytes p v is holds wait few (Disagree id first second) h = absurd h
StateOfAnExecutorIsGood-holds bytes p v is holds wait few (Read log) h = absurd h
StateOfAnExecutorIsGood-holds bytes p v is holds wait few Write h = absurd h
