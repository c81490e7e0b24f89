-- What a commit comes to.
use Rattle.std.proofs.Common.{◌≡◌, ◌⊎◌, ◌↔◌, ◌≤◌, ◌^◌, ℕ, zero, suc, List, [], ◌∷◌, map, zip}
use Rattle.std.proofs.Common.{length, arith, Contains, slice_get, Option, None, Some, refl, sym, ap}
use Rattle.std.proofs.Common.{◌∙◌, not, subst, inl, inr}
use Rattle.std.proofs.lemmas.List.Sums.{count_by-le-length, length-filter}
use Rattle.epx_types.proofs.Common.{length-map, ids_of, instance_of, ops_or_empty, Contents}
use Rattle.epx_types.proofs.Common.{is_among, max_instances}
use Rattle.epx_types.proofs.Common.{execute, remaining, Ranked, ranked_ids, IsExecutionOrder}
use Rattle.epx_types.proofs.Common.{IsRising, Instance, IsReady, HasRemaining, Waiting}
use Rattle.epx_types.proofs.Common.{IsRising-same, IsExecutionOrder-IsLawful}
use Rattle.epx_types.proofs.Common.{Contains-remaining_iff, IsRising-remaining, IsReady-in_whole}
use Rattle.epx_types.proofs.Common.{IsReady-reached}
use Rattle.epx_types.specs.declared.id.Id.{Id}
use Rattle.epx_types.specs.declared.op.Op.{Op}
use Rattle.epx_types.specs.declared.reply.Reply.{Reply}
use Rattle.epx_laws.specs.DoneLaws.{RemainingIsReadyAlike}
use Rattle.epx_laws.specs.ResumedRunLaws.{CanResume, run_on}
use Rattle.epx_executor.specs.declared.choose.Choice.{Choice}
use Rattle.epx_executor.specs.inner.Batches.{IsCallBatch}
use Rattle.epx_executor.specs.inner.Choices.{IsPassedOver}
use Rattle.epx_executor.proofs.CallLineLemmas.{length-merged, Contains-merged}
use Rattle.epx_executor.proofs.CallBatchLemmas.{Contains-pending}
use Rattle.epx_executor.proofs.OrderedLemmas.{commands_in-remaining, length-ranked_ids}
use Rattle.epx_executor.specs.CallLines.{call_lines}
use Rattle.epx_executor.specs.Commits.{ExecutorView, IsCommit, AllWait, not_done}
use Rattle.epx_executor.specs.ExecutorLaws.{IsSoundFor}
use Rattle.epx_executor.proofs.RemainderLemmas.{Contains-not_done, Contains-from_not_done}
use Rattle.epx_executor.proofs.RemainderLemmas.{IsRising-not_done}
use Rattle.epx_executor.proofs.RemainderLemmas.{remaining-not_done, IsRising-same_instances}
use Rattle.epx_executor.proofs.RemainderLemmas.{remaining-twice, remaining-same}

-- ---- nothing is left ready

-- what is ready without some ready instances is ready with them
ready_in_whole : (m : List Instance) (ids : List Id) → IsRising (ids_of m)
    → ((x : Id) → Contains ids x → IsReady m x) → ((x : Id) → IsReady m x → Contains ids x)
    → (x : Id) → IsReady (remaining ids m) x → IsReady m x
ready_in_whole m ids rising only whole =
    IsReady-in_whole m m ids rising only
    (λ x y there reached. whole y (IsReady-reached m x y reached (only x there)))
    (λ e h left. h)

-- once the order of what remains is done, nothing that remains is ready
none_ready : (done now : List Id) (other : List Instance)
    (order : List Ranked) → IsRising (ids_of other)
    → IsExecutionOrder (remaining done other) order
    → ((x : Id) → Contains now x ↔ (Contains done x ⊎ Contains (ranked_ids order) x)) → (x : Id)
    → ¬ IsReady (remaining now other) x
none_ready done now other order rising ordered same x ready =
    let ids = ranked_ids order in
    let left = ((Contains-remaining_iff now other x).0 ready.committed).1 in
    let new : ¬ Contains ids x = λ there. left ((same x).1 (inr there)) in
    let twice : IsReady (remaining ids (remaining done other)) x =
    subst (λ (m : List Instance). IsReady m x) (sym (remaining-twice done ids now other same))
    ready in
    new (ordered.whole x (ready_in_whole (remaining done other) ids
    (IsRising-remaining done other rising)
    (IsExecutionOrder-IsLawful (remaining done other) order ordered).only ordered.whole x twice))

pub AllWait-after : (done now : List Id) (other : List Instance)
    (order : List Ranked) (v : ExecutorView) → IsRising (ids_of other)
    → IsExecutionOrder (remaining done other) order
    → ((x : Id) → Contains now x ↔ (Contains done x ⊎ Contains (ranked_ids order) x))
    → v.done ≡ now → v.pending ≡ not_done now other → AllWait v
AllWait-after done now other order v rising ordered same is left = record {
  rising = subst (λ (m : List Instance). IsRising (ids_of m)) (sym left)
      (IsRising-not_done now other rising);
  not_done = λ e h. subst (λ (ids : List Id). ¬ Contains ids e.id) (sym is)
      (Contains-from_not_done now other e (subst (λ (m : List Instance). Contains m e) left h)).1;
  none_ready = λ x ready. none_ready done now other order rising ordered same x
      (subst (λ (m : List Instance). IsReady m x)
      (ap (remaining v.done) left ∙ ap (λ (ids : List Id). remaining ids (not_done now other)) is
      ∙ remaining-not_done now other) ready);
}

pub IsReady-only_done : RemainingIsReadyAlike → (v : ExecutorView) → AllWait v
    → (all : List Instance) → IsRising (ids_of all)
    → ((e : Instance) → ¬ Contains v.done e.id → Contains all e ↔ Contains v.pending e)
    → ((x : Id) → Contains v.done x → IsReady all x) →
    (x : Id) → ¬ Contains v.done x → ¬ IsReady all x
IsReady-only_done alike v settled all rising same done x left ready =
    settled.none_ready x (subst (λ (m : List Instance). IsReady m x)
    (remaining-same v.done all v.pending rising settled.rising same)
    ((alike v.done all done x left).1 ready))

-- ---- over a map that contains all that came

module _ (m came : List Instance) (before after : ExecutorView) (replies : List (Id × Reply))
    (sound : IsSoundFor m before) (has : HasRemaining m before.done came)
    (commit : IsCommit before came after replies) where
  pub HasRemaining-other : HasRemaining m before.done commit.other
  HasRemaining-other e h left =
      elim ((Contains-merged before.done before.pending came commit.other commit.merged e).0 h) [
        | inl old ↦ sound.has e old left
        | inr new ↦ has e new.0 left
      ]

  pub CanResume-other : CanResume m before.done before.store commit.other
  CanResume-other = record { rising = sound.rising; sound = sound.sound; has = HasRemaining-other }

  pub HasRemaining-pending : HasRemaining m after.done after.pending
  HasRemaining-pending e h left =
      let there = Contains-from_not_done after.done commit.other e
      (subst (λ (l : List Instance). Contains l e) commit.pending h) in
      HasRemaining-other e there.0 (λ old. there.1 ((commit.done e.id).1 (inl old)))

-- ---- a pair of two lists

Some-same : {X : Type 0} (o : Option X) (x y : X) → o ≡ Some x → o ≡ Some y → x ≡ y
Some-same o x y p q = cc (p, q)

pub slice_get-zip : {X Y : Type 0} (xs : List X) (ys : List Y) (i : ℕ) (x : X) (y : Y)
    → slice_get (zip xs ys) i ≡ Some (x, y) → (slice_get xs i ≡ Some x) × (slice_get ys i ≡ Some y)
slice_get-zip [] ys i x y h = absurd (cc h)
slice_get-zip (a ∷ xs) [] i x y h = absurd (cc h)
slice_get-zip (a ∷ xs) (b ∷ ys) zero x y h =
    let same : (a, b) ≡ (x, y) = Some-same (Some (a, b)) (a, b) (x, y) refl h in
    (ap (λ p. Some p.0) same, ap (λ p. Some p.1) same)
slice_get-zip (a ∷ xs) (b ∷ ys) (suc i) x y h = slice_get-zip xs ys i x y h

-- ---- a batch that is executed is a commit

module _ (done : List Id) (c : Contents) (pending came : List Instance) (choice : Option Choice)
    (entries : List Instance) (order : List Ranked) (positions : List (Id × ℕ))
    (waiters : List Waiting) (now : List Id)
    (batch : IsCallBatch done pending came choice entries order positions waiters now) where
  old : (e : Instance) → Contains pending e → Contains batch.m e
  old = Contains-pending done pending came choice entries order positions waiters now batch

  pub AllWait-after_batch : (v : ExecutorView) → v.done ≡ now → v.pending ≡ not_done now batch.m
      → AllWait v
  AllWait-after_batch v is also =
      AllWait-after done now batch.m order v batch.merged.committed.rising batch.ordered
      batch.done_now is also

  pub length-after_batch : (left : List Instance) → left ≡ not_done now batch.m
      → length left ≤ max_instances
  length-after_batch left is =
      let stays = λ (e : Instance). not (is_among now e.id) in
      omega (
        arith,
        length-merged (call_lines done pending came) batch.m batch.merged,
        length-filter stays batch.m,
        count_by-le-length stays batch.m,
        ap length is,
      )

  -- an entry of a pending Id is the pending one
  pub id-agrees_with_pending : (p e : Instance) → Contains pending p → Contains entries e
      → p.id ≡ e.id → p ≡ e
  id-agrees_with_pending p e h k same =
      IsRising-same batch.m batch.merged.committed.rising p e (old p h) (batch.within e k) same

  -- what is pending after it
  pub not_done-after_batch : ((e : Instance) → Contains pending e → ¬ Contains done e.id)
      → (left : List Instance) → IsRising (ids_of left)
      → ((e : Instance) → Contains left e ↔ ((Contains pending e
      ⊎ (Contains entries e × (¬ Contains now e.id))) × (¬ Contains (ranked_ids order) e.id)))
      → left ≡ not_done now batch.m
  not_done-after_batch none left rising same =
      IsRising-same_instances left (not_done now batch.m) rising
      (IsRising-not_done now batch.m batch.merged.committed.rising) (λ e. (
        λ h. let k = (same e).0 h in elim k.0 [
          | inl before ↦ Contains-not_done now batch.m e (old e before) (λ there.
              elim ((batch.done_now e.id).0 there)
              [ inl d ↦ none e before d | inr new ↦ k.1 new ])
          | inr new ↦ Contains-not_done now batch.m e (batch.within e new.0) new.1
        ],
        λ h. let k = Contains-from_not_done now batch.m e h in (same e).1 (
          elim (batch.whole e k.0) [
            | inl over ↦ inl (passed_over choice e over)
            | inr there ↦ inr (there, k.1)
          ],
          λ new. k.1 ((batch.done_now e.id).1 (inr new)),
        ),
      ))
    where
      passed_over : (o : Option Choice) (e : Instance) → IsPassedOver o pending e
          → Contains pending e
      passed_over None e h = absurd h
      passed_over (Some c) e h = h.0

  -- the commands at the positions are those of the order
  module _ (os : List (List Op))
      (at : os ≡ map (λ (p : Id × ℕ). ops_or_empty (slice_get entries p.1)) positions) where
    pub length-batch : length os ≡ length (ranked_ids order)
    length-batch = ap length (at ∙ batch.found)
        ∙ length-map (ranked_ids order) (λ x. ops_or_empty (instance_of batch.m x))

    pub length-few_in_batch : length os ≤ 2 ^ 40
    length-few_in_batch = omega (
      arith,
      length-batch,
      length-ranked_ids done batch.m order batch.ordered
          (length-merged (call_lines done pending came) batch.m batch.merged),
    )

    pub IsCommit-batch : (d : Contents) → d ≡ c → (final : Contents)
        (replies : List (Id × Reply)) (left : List Instance) → final ≡ (execute os d).final
        → replies ≡ zip (ranked_ids order) (execute os d).replies → left ≡ not_done now batch.m
        → IsCommit (record { done = done; store = c; pending = pending }) came
        (record { done = now; store = final; pending = left }) replies
    IsCommit-batch d is final replies left last replied stay =
        let same : execute os d ≡ run_on done c batch.m order =
        ap (execute os) is ∙ ap (λ ks. execute ks c)
        (at ∙ batch.found ∙ commands_in-remaining done batch.m order batch.ordered) in
        record {
          other = batch.m;
          order = order;
          merged = batch.merged;
          ordered = batch.ordered;
          store = last ∙ ap (λ e. e.final) same;
          replied = replied ∙ ap (λ e. zip (ranked_ids order) e.replies) same;
          done = batch.done_now;
          pending = stay;
        }
