-- The end of a batch, of a follower as it keeps its lines.
use Rattle.std.proofs.Common.{◌≡◌, ◌≢◌, ◌⊎◌, inl, inr, ◌∙◌, ℕ, ◌+◌, ◌++◌, ◌≤◌, Bool, List, []}
use Rattle.std.proofs.Common.{length, map, None, Option, false, sym, ap, subst, subst₂}
use Rattle.std.proofs.Common.{arith, not, refl, ◌∷◌, ◌^◌}
use Rattle.epx_types.proofs.Common.{Contents, Instance, Placed, commands_in, length-map}
use Rattle.epx_types.proofs.Common.{length-replies, ranked_ids, remaining, is_among}
use Rattle.epx_types.specs.declared.fault.Fault.{Fault}
use Rattle.epx_types.specs.declared.fault.Fault.TheVariants.{Memory}
use Rattle.epx_types.specs.declared.id.Id.{Id}
use Rattle.epx_types.specs.declared.place.Place.{Place}
use Rattle.epx_types.specs.declared.reply.Reply.{Reply}
use Rattle.epx_committed.specs.MergedLines.{IsMergeFault}
use Rattle.epx_laws.specs.ResumedRunLaws.{run_on}
use Rattle.epx_executor.specs.CallLines.{call_lines}
use Rattle.epx_executor.specs.Commits.{AllWait, ExecutorView, IsCommit}
use Rattle.epx_follow.specs.BatchEnds.{EndsBatch, RefusesBatch, batch_text, count_new}
use Rattle.epx_follow.specs.CallPlaces.{at_lines, held_places}
use Rattle.epx_follow.specs.Following.{FollowerView, held_lines, instances_of}
use Rattle.epx_follow.specs.FollowerLaws.{executor_of}
use Rattle.epx_follow.specs.inner.FirstPlaces.{HasOtherPlaces}
use Rattle.epx_follow.specs.inner.HeldLines.{AreHeld, batch_lines, pending_lines}
use Rattle.epx_follow.proofs.BatchEndLemmas.{HasOtherPlaces-all_executed, EndsBatch-ended}
use Rattle.epx_follow.proofs.BatchEndLemmas.{AreHeld-ended}
use Rattle.epx_follow.proofs.BatchEndLemmas.{instances-batch, instances-pending, places-batch}
use Rattle.epx_follow.proofs.CountLemmas.{count_new-executed}
use Rattle.epx_follow.proofs.HoldLemmas.{shown}
use Rattle.epx_executor.proofs.CallLineLemmas.{length-merged}
use Rattle.epx_executor.proofs.PrefixLemmas.{map-zip_firsts}
use Rattle.std.proofs.lemmas.List.Sums.{count_by-le-length, length-filter}

-- the Ids of the replies of a commit are those of its order
executed_are : (v after : ExecutorView) (came : List Instance) (replies : List (Id × Reply))
    → (commit : IsCommit v came after replies)
    → map (λ r. r.0) replies ≡ ranked_ids commit.order
executed_are v after came replies commit =
    let ids = ranked_ids commit.order in
    let m = remaining v.done commit.other in
    ap (map (λ (r : Id × Reply). r.0)) commit.replied
    ∙ map-zip_firsts ids (run_on v.done v.store commit.other commit.order).replies
    (length-replies (commands_in m ids) v.store ∙ length-map ids _)

-- few wait after a commit
pub pending-is_few : (v after : ExecutorView) (came : List Instance) (replies : List (Id × Reply))
    → IsCommit v came after replies → length after.pending ≤ 2 ^ 20
pending-is_few v after came replies commit =
    let passes = λ (e : Instance). not (is_among after.done e.id) in
    omega (
      arith,
      length-merged (call_lines v.done v.pending came) commit.other commit.merged,
      length-filter passes commit.other,
      count_by-le-length passes commit.other,
      ap length commit.pending,
    )

module _ (done : List Id) (store : Contents) (noted : Id → Option Place)
    (pending : List Instance) (places : List Place) (batch : List Instance) (next : Place)
    (is_open : Bool)
    (held : AreHeld noted (shown done store noted pending places batch next is_open))
    (same : length places ≡ length batch) where
  abbrev was : FollowerView
  was = shown done store noted pending places batch next is_open

  pending_are : instances_of was.pending ≡ pending
  pending_are = instances-pending noted pending

  batch_are : instances_of was.batch ≡ batch
  batch_are = instances-batch places batch same

  -- a refused call refuses the batch
  pub RefusesBatch-from_fault : (fault result : Fault)
      → IsMergeFault (call_lines done pending batch) fault
      → (result ≡ Memory) ⊎ (result ≡ at_lines (held_places was.pending) places fault)
      → RefusesBatch was result
  RefusesBatch-from_fault fault result h (inl memory) = inl memory
  RefusesBatch-from_fault fault result h (inr is) =
      inr (record {
        call = fault;
        refused = subst₂ (λ (p b : List Instance). IsMergeFault (call_lines done p b) fault)
            (sym pending_are) (sym batch_are) h;
        named = is ∙ ap (λ (ps : List Place). at_lines (held_places was.pending) ps fault)
            (sym (places-batch places batch same));
      })

  module _ (after : ExecutorView) (replies : List (Id × Reply)) (ids : List Id)
      (ids_are : ids ≡ map (λ r. r.0) replies)
      (commit : IsCommit (record { done = done; store = store; pending = pending }) batch after
      replies) where
    commits : IsCommit (executor_of was) (instances_of was.batch) after replies
    commits = subst₂ (λ (p b : List Instance).
        IsCommit (record { done = done; store = store; pending = p }) b after replies)
        (sym pending_are) (sym batch_are) commit

    executed_ids : ids ≡ ranked_ids commits.order
    executed_ids =
        ids_are ∙ executed_are (executor_of was) after (instances_of was.batch) replies commits

    waiting_ids : length was.pending ≡ length pending
    waiting_ids = sym (length-map was.pending (λ (p : Placed). p.instance))
        ∙ ap length pending_are

    -- no more waited than are executed or wait now
    pub pending-within : length pending ≤ length ids + length after.pending
    pending-within = omega (
      arith,
      count_new-executed noted was held after replies commits,
      ap length executed_ids,
      waiting_ids,
    )

    module _ (left : Id → Option Place) (settled : AllWait after)
        (gone : length after.pending ≡ 0 → (x : Id) → left x ≡ None)
        (kept : length after.pending ≢ 0
        → HasOtherPlaces left (pending_lines noted pending ++ batch_lines places batch) ids) where
      others_by : (m : List Instance) → after.pending ≡ m
          → HasOtherPlaces left (held_lines was) (ranked_ids commits.order)
      others_by [] is =
          HasOtherPlaces-all_executed noted was held after replies commits settled left is
          (gone (ap length is))
      others_by (e ∷ m) is = subst (HasOtherPlaces left (held_lines was)) executed_ids
          (kept (λ none. absurd (omega (arith, ap length is, none))))

      others : HasOtherPlaces left (held_lines was) (ranked_ids commits.order)
      others = others_by after.pending refl

      abbrev now : FollowerView
      now = shown after.done after.store left after.pending [] [] next false

      pub AreHeld-left : AreHeld left now
      AreHeld-left = AreHeld-ended noted was held after replies commits settled left others

      pub EndsBatch-now : (came : ℕ) (text : List ℕ)
          → came + length pending ≡ length ids + length after.pending
          → text ≡ batch_text came (length after.pending) replies → EndsBatch was now text
      EndsBatch-now came text count is =
          let new : came ≡ count_new was commits.other =
          omega (
            arith,
            count_new-executed noted was held after replies commits,
            ap length executed_ids,
            waiting_ids,
            count,
          ) in
          EndsBatch-ended noted was held after replies commits settled left others came text new
          (is ∙ ap (λ n. batch_text came n replies)
          (ap length (sym (instances-pending left after.pending))
          ∙ length-map (pending_lines left after.pending) (λ (p : Placed). p.instance)))
