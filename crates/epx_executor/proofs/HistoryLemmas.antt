-- The calls of an executor, one after another.
use Rattle.std.proofs.Common.{◌≡◌, ◌⊎◌, ◌↔◌, ℕ, List, [], ◌∷◌, Contains, slice_get, Some, refl, sym}
use Rattle.std.proofs.Common.{subst, inl, inr}
use Rattle.epx_types.proofs.Common.{ids_of, IsCovered, Ranked, IsExecutionOrder, IsRising, Instance}
use Rattle.epx_types.proofs.Common.{IsReady, Contains-nil, Contains-head, Contains-cons}
use Rattle.epx_types.proofs.Common.{Contains-cons_cases, is_among-cases}
use Rattle.epx_types.specs.declared.id.Id.{Id}
use Rattle.epx_types.specs.declared.reply.Reply.{Reply}
use Rattle.epx_laws.specs.ResumedRunLaws.{HasReply, whole_run}
use Rattle.epx_executor.specs.Commits.{ExecutorView, IsCommit, AllWait}
use Rattle.epx_executor.specs.ExecutorLaws.{IsSoundFor, CommittingStaysSound}
use Rattle.epx_executor.specs.ExecutorLaws.{CommittedRepliesAreThoseOfTheWhole}
use Rattle.epx_executor.specs.ExecutorLaws.{NothingIsHeldBack, new_executor}
use Rattle.epx_executor.specs.HistoryLaws.{AllCame, AreCommits, Call, CameFrom}
use Rattle.epx_executor.proofs.CallLineLemmas.{Contains-merged}
use Rattle.epx_executor.proofs.CommitLemmas.{AllWait-after}
use Rattle.epx_executor.proofs.RemainderLemmas.{Contains-not_done, Contains-not_done}

pub CameFrom-later : (m : List Instance) (call : Call) (calls : List Call)
    → CameFrom m (call ∷ calls)
    → CameFrom m calls
CameFrom-later m call calls from other h = from other (Contains-cons call calls other h)

-- ---- what holds after each call

module _ (m : List Instance) (stays : CommittingStaysSound) where
  pub IsSoundFor-after : (calls : List Call) (before after : ExecutorView) → IsSoundFor m before
      → AreCommits before calls after → CameFrom m calls → IsSoundFor m after
  IsSoundFor-after [] before after sound are from = subst (IsSoundFor m) are sound
  IsSoundFor-after (call ∷ calls) before after sound are from =
      IsSoundFor-after calls are.0 after
      (stays m call.0 before are.0 call.1 sound
      (λ e h left. from call (Contains-head call calls) e h) are.1) are.2
      (CameFrom-later m call calls from)

  module _ (reply : CommittedRepliesAreThoseOfTheWhole) (covered : IsCovered m)
      (whole : List Ranked) (ordered : IsExecutionOrder m whole) where
    pub HasReply-in_call : (calls : List Call) (before after : ExecutorView) → IsSoundFor m before
        → AreCommits before calls after → CameFrom m calls → (call : Call) → Contains calls call
        → (i : ℕ) (x : Id) (r : Reply) → slice_get call.1 i ≡ Some (x, r)
        → HasReply whole (whole_run m whole) x r
    HasReply-in_call [] before after sound are from other there i x r at =
        absurd (Contains-nil other there)
    HasReply-in_call (call ∷ calls) before after sound are from other there i x r at =
        let has = λ (e : Instance) (h : Contains call.0 e) (left : ¬ Contains before.done e.id).
        from call (Contains-head call calls) e h in
        elim (Contains-cons_cases call calls other there) [
          | inl same ↦ reply m call.0 before are.0 call.1 sound has are.1 covered whole ordered i x
              r (subst (λ (c : Call). slice_get c.1 i ≡ Some (x, r)) (sym same) at)
          | inr late ↦ HasReply-in_call calls are.0 after
              (stays m call.0 before are.0 call.1 sound has are.1) are.2
              (CameFrom-later m call calls from) other late i x r at
        ]

settled_by : (came : List Instance) (before after : ExecutorView) (replies : List (Id × Reply))
    → IsCommit before came after replies → AllWait after
settled_by came before after replies commit =
    AllWait-after before.done after.done commit.other commit.order after
    commit.merged.committed.rising commit.ordered commit.done refl commit.pending

pub AllWait-after_all : (calls : List Call) (before after : ExecutorView) → AllWait before
    → AreCommits before calls after → AllWait after
AllWait-after_all [] before after settled are = subst AllWait are settled
AllWait-after_all (call ∷ calls) before after settled are =
    AllWait-after_all calls are.0 after (settled_by call.0 before are.0 call.1 are.1) are.2

pub AllWait-new_executor : AllWait new_executor
AllWait-new_executor = record {
  rising = tt;
  not_done = λ e h. absurd (Contains-nil e h);
  none_ready = λ x ready. Contains-nil x ready.committed;
}

-- ---- what came is done or pending

abbrev IsKept : ExecutorView → Instance → Type 0
IsKept v e = Contains v.done e.id ⊎ Contains v.pending e

kept_by : (came : List Instance) (before after : ExecutorView) (replies : List (Id × Reply))
    → IsCommit before came after replies → (e : Instance) → IsKept before e ⊎ Contains came e
    → IsKept after e
kept_by came before after replies commit e h =
    elim (is_among-cases after.done e.id) [
      | inl now ↦ inl now.1
      | inr left ↦
          let old : ¬ Contains before.done e.id = λ there.
          left.1 ((commit.done e.id).1 (inl there)) in
          let there : Contains before.pending e
          ⊎ (Contains came e × (¬ Contains before.done e.id)) = elim h [
            | inl (inl done) ↦ absurd (old done)
            | inl (inr waits) ↦ inl waits
            | inr new ↦ inr (new, old)
          ] in
          let in_other = (Contains-merged before.done before.pending came commit.other
          commit.merged e).1 there in
          inr (subst (λ (l : List Instance). Contains l e) (sym commit.pending)
          (Contains-not_done after.done commit.other e in_other left.1))
    ]

kept_by_all : (calls : List Call) (before after : ExecutorView) → AreCommits before calls after
    → (e : Instance) → IsKept before e → IsKept after e
kept_by_all [] before after are e h = subst (λ (v : ExecutorView). IsKept v e) are h
kept_by_all (call ∷ calls) before after are e h =
    kept_by_all calls are.0 after are.2 e (kept_by call.0 before are.0 call.1 are.1 e (inl h))

pub IsKept-came : (calls : List Call) (before after : ExecutorView)
    → AreCommits before calls after → (call : Call) → Contains calls call → (e : Instance)
    → Contains call.0 e → IsKept after e
IsKept-came [] before after are other there e h = absurd (Contains-nil other there)
IsKept-came (call ∷ calls) before after are other there e h =
    elim (Contains-cons_cases call calls other there) [
      | inl same ↦ kept_by_all calls are.0 after are.2 e (kept_by call.0 before are.0 call.1 are.1 e
          (inr (subst (λ (c : Call). Contains c.0 e) (sym same) h)))
      | inr late ↦ IsKept-came calls are.0 after are.2 other late e h
    ]

-- ---- once all has come

module _ (m : List Instance) (rising : IsRising (ids_of m)) (calls : List Call)
    (after : ExecutorView) (are : AreCommits new_executor calls after) (all : AllCame m calls)
    (sound : IsSoundFor m after) (held : NothingIsHeldBack) where
  same_left : (e : Instance) → ¬ Contains after.done e.id → Contains m e ↔ Contains after.pending e
  same_left e left = (
    λ h. let came = all e h in
        elim (IsKept-came calls new_executor after are came.0 came.1 e came.2) [
          | inl done ↦ absurd (left done)
          | inr waits ↦ waits
        ],
    λ h. sound.has e h left,
  )

  pub Contains-ready_done : (x : Id) → IsReady m x → Contains after.done x
  Contains-ready_done x ready =
      elim (is_among-cases after.done x) [
        | inl done ↦ done.1
        | inr left ↦ absurd (held after
            (AllWait-after_all calls new_executor after AllWait-new_executor are) m rising same_left
            sound.sound.ready x left.1 ready)
      ]
