-- How many instances of a batch are new: what is executed and waits now, without what waited.
use Rattle.std.proofs.Common.{◌≡◌, ◌≢◌, ◌+◌, inl, inr, Bool, true, not, List, [], ◌∷◌}
use Rattle.std.proofs.Common.{AllPairs, Contains, Option, length, filter, refl, sym, ap, subst}
use Rattle.std.proofs.Common.{arith}
use Rattle.std.proofs.lemmas.List.Filters.{length-filter_both}
use Rattle.epx_types.proofs.Common.{BelowAll, Contains-append_cases, Contains-append_left}
use Rattle.epx_types.proofs.Common.{Contains-filter, Contains-from_filter, Contains-from_map}
use Rattle.epx_types.proofs.Common.{Contains-map, Instance, IsExecutionOrder-IsLawful, IsRising}
use Rattle.epx_types.proofs.Common.{Placed, cases_Bool, length-at_most, ids_of, is_among}
use Rattle.epx_types.proofs.Common.{length-map}
use Rattle.epx_types.proofs.Common.{passes-from_filter, ranked_ids, remaining}
use Rattle.epx_types.proofs.Common.{AllPairs-rising_distinct}
use Rattle.epx_types.proofs.remaining.RemainingLemmas.{Contains-remaining_iff, is_among-cases}
use Rattle.epx_types.specs.declared.id.Id.{Id}
use Rattle.epx_types.specs.declared.place.Place.{Place}
use Rattle.epx_types.specs.declared.reply.Reply.{Reply}
use Rattle.epx_committed.specs.MergedLines.{IsMerged}
use Rattle.epx_executor.specs.CallLines.{call_lines}
use Rattle.epx_executor.specs.Commits.{ExecutorView, IsCommit}
use Rattle.epx_follow.specs.BatchEnds.{count_new}
use Rattle.epx_follow.specs.Following.{FollowerView, held_lines, instances_of}
use Rattle.epx_follow.specs.FollowerLaws.{executor_of}
use Rattle.epx_follow.specs.inner.HeldLines.{AreHeld}
use Rattle.epx_follow.proofs.CallPlaceLemmas.{HaveInstancesOf-call_real, HaveInstancesOf-real_call}
use Rattle.epx_follow.proofs.SameInstanceLemmas.{IsMerged-alike}

-- ---- what passes a test

among_is : (ids : List Id) (x : Id) → is_among ids x ≡ true → Contains ids x
among_is ids x e = elim (is_among-cases ids x)
    [ inl found ↦ found.1 | inr missed ↦ absurd (cc (e, missed.0)) ]

is_in : (ids : List Id) (x : Id) → Contains ids x → is_among ids x ≡ true
is_in ids x h = elim (is_among-cases ids x)
    [ inl found ↦ found.0 | inr missed ↦ absurd (missed.1 h) ]

module _ (p : Instance → Bool) where
  below_passing : (x : Id) (m : List Instance) → BelowAll x (ids_of m)
      → BelowAll x (ids_of (filter p m))
  below_passing x [] h = tt
  below_passing x (e ∷ m) h = elim (cases_Bool (p e)) [
    | inl passes ↦ rw passes (h.0, below_passing x m h.1)
    | inr fails ↦ rw fails (below_passing x m h.1)
  ]

  pub IsRising-filter : (m : List Instance) → IsRising (ids_of m) → IsRising (ids_of (filter p m))
  IsRising-filter [] h = tt
  IsRising-filter (e ∷ m) h = elim (cases_Bool (p e)) [
    | inl passes ↦ rw passes (below_passing e.id m h.0, IsRising-filter m h.1)
    | inr fails ↦ rw fails (IsRising-filter m h.1)
  ]

  -- the instances that pass are as many as their Ids
  passing_are : (m : List Instance) (ids : List Id) → IsRising (ids_of m)
      → AllPairs (λ x y. x ≢ y) ids
      → ((x : Id) → Contains ids x → (e : Instance) × Contains m e × (e.id ≡ x) × (p e ≡ true))
      → ((e : Instance) → Contains m e → p e ≡ true → Contains ids e.id)
      → length (filter p m) ≡ length ids
  passing_are m ids rising once there back =
      let down = length-at_most ids (ids_of (filter p m)) once (λ x h. let e = there x h in
      subst (Contains (ids_of (filter p m))) e.2
      (Contains-map (λ (d : Instance). d.id) (filter p m) e.0 (Contains-filter p m e.0 e.1 e.3))) in
      let up = length-at_most (ids_of (filter p m)) ids
      (AllPairs-rising_distinct (ids_of (filter p m)) (IsRising-filter m rising)) (λ x h.
      let e = Contains-from_map (λ (d : Instance). d.id) (filter p m) x h in
      subst (Contains ids) e.2 (back e.0 (Contains-from_filter p m e.0 e.1)
      (passes-from_filter p m e.0 e.1))) in
      omega (arith, down, up, length-map (filter p m) (λ (d : Instance). d.id))

-- ---- a commit

module _ (noted : Id → Option Place) (before : FollowerView) (held : AreHeld noted before)
    (after : ExecutorView) (replies : List (Id × Reply))
    (commit : IsCommit (executor_of before) (instances_of before.batch) after replies) where
  abbrev lines : List Placed
  lines = held_lines before

  abbrev waited : List Id
  waited = ids_of (instances_of before.pending)

  abbrev executed : List Id
  executed = ranked_ids commit.order

  merged : IsMerged lines commit.other
  merged = IsMerged-alike
      (call_lines before.done (instances_of before.pending) (instances_of before.batch)) lines
      (HaveInstancesOf-real_call before.done before.pending before.batch held.left)
      (HaveInstancesOf-call_real before.done before.pending before.batch held.left) commit.other
      commit.merged

  -- nothing of the map was executed before
  new_to_it : (e : Instance) → Contains commit.other e → ¬ Contains before.done e.id
  new_to_it e h =
      let l = merged.committed.given e h in
      subst (λ (d : Instance). ¬ Contains before.done d.id) l.2
      (elim (Contains-append_cases before.pending before.batch l.0 l.1) [
        | inl old ↦ held.settled.not_done l.0.instance
            (Contains-map (λ (q : Placed). q.instance) before.pending l.0 old)
        | inr came ↦ held.left l.0 came
      ])

  -- what waited is of the map
  was_of_map : (x : Id) → Contains waited x → (e : Instance) × Contains commit.other e
      × (e.id ≡ x) × (is_among waited e.id ≡ true)
  was_of_map x h =
      let e = Contains-from_map (λ (d : Instance). d.id) (instances_of before.pending) x h in
      let p = Contains-from_map (λ (q : Placed). q.instance) before.pending e.0 e.1 in (
        e.0,
        subst (Contains commit.other) p.2 (merged.committed.whole p.0
            (Contains-append_left before.pending before.batch p.0 p.1)),
        e.2,
        is_in waited e.0.id (subst (Contains waited) (sym e.2) h),
      )

  -- what is executed is of the map
  executed_of_map : (x : Id) → Contains executed x → (e : Instance) × Contains commit.other e
      × (e.id ≡ x) × (is_among after.done e.id ≡ true)
  executed_of_map x h =
      let m = remaining before.done commit.other in
      let lawful = IsExecutionOrder-IsLawful m commit.order commit.ordered in
      let there = (Contains-remaining_iff before.done commit.other x).0
      (lawful.only x h).committed in
      let e = Contains-from_map (λ (d : Instance). d.id) commit.other x there.0 in (
        e.0,
        e.1,
        e.2,
        is_in after.done e.0.id (subst (Contains after.done) (sym e.2) ((commit.done x).1 (inr h))),
      )

  pub count_new-executed : count_new before commit.other + length before.pending
      ≡ length executed + length after.pending
  count_new-executed =
      let was = λ (e : Instance). is_among waited e.id in
      let is = λ (e : Instance). is_among after.done e.id in
      let lawful = IsExecutionOrder-IsLawful (remaining before.done commit.other) commit.order
      commit.ordered in
      let old = passing_are was commit.other waited merged.committed.rising
      (AllPairs-rising_distinct waited held.settled.rising) was_of_map
      (λ e h among. among_is waited e.id among) in
      let now = passing_are is commit.other executed merged.committed.rising lawful.once
      executed_of_map (λ e h among. elim ((commit.done e.id).0 (among_is after.done e.id among)) [
        | inl earlier ↦ absurd (new_to_it e h earlier)
        | inr here ↦ here
      ]) in
      omega (
        arith,
        old,
        now,
        length-filter_both was (λ e. not (was e)) (λ e. refl) commit.other,
        length-filter_both is (λ e. not (is e)) (λ e. refl) commit.other,
        length-map (instances_of before.pending) (λ (e : Instance). e.id),
        length-map before.pending (λ (p : Placed). p.instance),
        ap length commit.pending,
      )
