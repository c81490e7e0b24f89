-- The lines that a follower holds after a batch, and what the end of the batch did.
use Rattle.std.proofs.Common.{◌≡◌, inl, inr, ◌∙◌, ℕ, List, [], ◌∷◌, ◌++◌, map, zip}
use Rattle.std.proofs.Common.{length, Contains, Option, None, Some, false, not, option_map, refl}
use Rattle.std.proofs.Common.{sym, ap, ap₂, subst, arith, Bor, ◌+◌, ◌<◌, take, get_or}
use Rattle.epx_types.proofs.Common.{map-append, take_more}
use Rattle.epx_types.proofs.Common.{Contains-filter, Contains-append_cases}
use Rattle.epx_types.proofs.Common.{Contains-from_filter, Contains-from_map, Contains-map}
use Rattle.epx_types.proofs.Common.{Contains-nil, Instance, Placed, is_among, is_among-false}
use Rattle.epx_types.proofs.Common.{ranked_ids}
use Rattle.std.specs.Option.{unwrap_or}
use Rattle.epx_committed.specs.MergedLines.{IsMerged}
use Rattle.epx_laws.specs.ResumedRunLaws.{run_on}
use Rattle.epx_types.proofs.remaining.RemainingLemmas.{is_among-cases}
use Rattle.epx_types.specs.declared.id.Id.{Id}
use Rattle.epx_types.specs.declared.place.Place.{Place}
use Rattle.epx_types.specs.declared.reply.Reply.{Reply}
use Rattle.epx_follow.specs.BatchEnds.{AreAtFirstLines, EndsBatch, batch_text, count_new}
use Rattle.epx_follow.specs.BatchEnds.{first_line}
use Rattle.epx_executor.specs.Commits.{AllWait, ExecutorView, IsCommit, not_done}
use Rattle.epx_follow.specs.Following.{FollowerView, held_lines, instances_of}
use Rattle.epx_follow.specs.FollowerLaws.{BatchIsACommit, executor_of}
use Rattle.epx_follow.specs.CallPlaces.{held_places}
use Rattle.epx_follow.specs.inner.FirstPlaces.{HasFirstPlaces, HasOtherPlaces}
use Rattle.epx_follow.specs.inner.HeldLines.{AreHeld, batch_lines, no_place, pending_lines}
use Rattle.epx_follow.proofs.CallPlaceLemmas.{HaveInstancesOf-call_real, HaveInstancesOf-real_call}
use Rattle.epx_follow.proofs.SameInstanceLemmas.{IsMerged-alike}
use Rattle.epx_executor.specs.CallLines.{call_lines}
use Rattle.epx_follow.proofs.FirstLineLemmas.{first_line-cases, first_line-finds}
use Rattle.epx_follow.proofs.FirstLineLemmas.{first_line-found}
use Rattle.epx_follow.proofs.HeldLineLemmas.{place_of}

-- ---- instances and places of lines

pub instances-pending : (noted : Id → Option Place) (m : List Instance)
    → instances_of (pending_lines noted m) ≡ m
instances-pending noted [] = refl
instances-pending noted (e ∷ m) = ap (λ es. e ∷ es) (instances-pending noted m)

pub instances-batch : (places : List Place) (es : List Instance) → length places ≡ length es
    → instances_of (batch_lines places es) ≡ es
instances-batch [] [] same = refl
instances-batch [] (e ∷ es) same = absurd (omega (arith, same))
instances-batch (p ∷ places) [] same = absurd (omega (arith, same))
instances-batch (p ∷ places) (e ∷ es) same =
    ap (λ more. e ∷ more) (instances-batch places es (omega (arith, same)))

pub places-batch : (places : List Place) (es : List Instance) → length places ≡ length es
    → held_places (batch_lines places es) ≡ places
places-batch [] [] same = refl
places-batch [] (e ∷ es) same = absurd (omega (arith, same))
places-batch (p ∷ places) [] same = absurd (omega (arith, same))
places-batch (p ∷ places) (e ∷ es) same =
    ap (λ more. p ∷ more) (places-batch places es (omega (arith, same)))

pub batch_lines-push : (places : List Place) (es : List Instance) (p : Place) (e : Instance)
    → length places ≡ length es → batch_lines (places ++ p ∷ []) (es ++ e ∷ [])
    ≡ batch_lines places es ++ record { place = p; instance = e } ∷ []
batch_lines-push [] [] p e same = refl
batch_lines-push [] (f ∷ es) p e same = absurd (omega (arith, same))
batch_lines-push (q ∷ places) [] p e same = absurd (omega (arith, same))
batch_lines-push (q ∷ places) (f ∷ es) p e same =
    ap (λ more. record { place = q; instance = f } ∷ more)
    (batch_lines-push places es p e (omega (arith, same)))

-- the places of the first k of some instances, and of the next one
pub places-next : (noted : Id → Option Place) (entries : List (Bor Instance)) (k : ℕ)
    (d : Bor Instance) (found after : List Place) (p : Place) → k < length entries
    → found ≡ held_places (pending_lines noted (map (λ e. e.now) (take k entries)))
    → p ≡ unwrap_or (noted (get_or entries k d).now.id) no_place → after ≡ found ++ p ∷ []
    → after ≡ held_places (pending_lines noted (map (λ e. e.now) (take (k + 1) entries)))
places-next noted entries k d found after p l so_far is pushed =
    let place = λ (e : Bor Instance). unwrap_or (noted e.now.id) no_place in
    let next = get_or entries k d in
    pushed ∙ ap₂ (λ (ps : List Place) q. ps ++ q ∷ []) (so_far ∙ mapped (take k entries)) is
    ∙ sym (map-append place (take k entries) (next ∷ []))
    ∙ ap (map place) (sym (take_more entries k d l)) ∙ sym (mapped (take (k + 1) entries))
  where
    mapped : (es : List (Bor Instance))
        → held_places (pending_lines noted (map (λ e. e.now) es))
        ≡ map (λ e. unwrap_or (noted e.now.id) no_place) es
    mapped [] = refl
    mapped (e ∷ es) = ap (λ ps. unwrap_or (noted e.now.id) no_place ∷ ps) (mapped es)

-- ---- the end of a batch

module _ (noted : Id → Option Place) (before : FollowerView) (held : AreHeld noted before)
    (after : ExecutorView) (replies : List (Id × Reply))
    (commit : IsCommit (executor_of before) (instances_of before.batch) after replies)
    (settled : AllWait after) where
  abbrev lines : List Placed
  lines = held_lines before

  abbrev call : List Placed
  call = call_lines before.done (instances_of before.pending) (instances_of before.batch)

  abbrev executed : List Id
  executed = ranked_ids commit.order

  merged : IsMerged lines commit.other
  merged = IsMerged-alike call lines
      (HaveInstancesOf-real_call before.done before.pending before.batch held.left)
      (HaveInstancesOf-call_real before.done before.pending before.batch held.left) commit.other
      commit.merged

  -- what waits now is of the map, and not executed
  of_map : (e : Instance) → Contains after.pending e
      → Contains commit.other e × (¬ Contains executed e.id)
  of_map e h = (
    Contains-from_filter (λ d. not (is_among after.done d.id)) commit.other e
        (subst (λ (m : List Instance). Contains m e) commit.pending h),
    λ there. settled.not_done e h ((commit.done e.id).1 (inr there)),
  )

  -- an instance on a line is executed or waits
  waits_now : (p : Placed) → Contains lines p → ¬ Contains executed p.instance.id
      → Contains after.pending p.instance
  waits_now p h new =
      let left_out : ¬ Contains after.done p.instance.id =
      λ there. elim ((commit.done p.instance.id).0 there) [
        | inl done ↦ elim (Contains-append_cases before.pending before.batch p h) [
          | inl old ↦ held.settled.not_done p.instance
              (Contains-map (λ (q : Placed). q.instance) before.pending p old) done
          | inr came ↦ held.left p came done
        ]
        | inr now ↦ new now
      ] in
      subst (λ (m : List Instance). Contains m p.instance) (sym commit.pending)
      (Contains-filter (λ d. not (is_among after.done d.id)) commit.other p.instance
      (merged.committed.whole p h) (ap not (is_among-false after.done p.instance.id left_out)))

  -- where nothing waits, no line names an Id that is not executed
  pub HasOtherPlaces-all_executed : (left : Id → Option Place) → after.pending ≡ []
      → ((x : Id) → left x ≡ None) → HasOtherPlaces left lines executed
  HasOtherPlaces-all_executed left none gone = (
    λ x h. gone x,
    λ x new. elim (first_line-cases lines x) [
      | inl free ↦ gone x ∙ sym (ap (option_map place_of) free)
      | inr some ↦
          let known = first_line-found lines x some.0 some.1 in
          let waits = waits_now some.0 known.0
          (λ there. new (subst (Contains executed) known.1 there)) in
          absurd (Contains-nil some.0.instance
          (subst (λ (m : List Instance). Contains m some.0.instance) none waits))
    ],
  )

  -- `left` are the first places without those of what is executed
  module _ (left : Id → Option Place) (others : HasOtherPlaces left lines executed) where
    -- a pending instance at its place
    abbrev at_place : Instance → Placed
    at_place e = record { place = unwrap_or (left e.id) no_place; instance = e }

    abbrev waiting : List Placed
    waiting = pending_lines left after.pending

    -- it is at the first line that names it
    at_first : (e : Instance) → Contains after.pending e
        → (first_line lines e.id ≡ Some (at_place e)) × (left e.id ≡ Some (at_place e).place)
    at_first e h =
        let there = of_map e h in
        let l = merged.committed.given e there.0 in
        let named : l.0.instance.id ≡ e.id = ap (λ (d : Instance). d.id) l.2 in
        let some = first_line-finds lines l.0 l.1 in
        let first : first_line lines e.id ≡ Some some.0 =
        ap (first_line lines) (sym named) ∙ some.1 in
        let known = first_line-found lines e.id some.0 first in
        let is : left e.id ≡ Some some.0.place =
        others.1 e.id there.1 ∙ ap (option_map place_of) first in
        let same : some.0.instance ≡ e =
        merged.agree some.0 l.0 known.0 l.1 (known.1 ∙ sym named) ∙ l.2 in
        let line : some.0 ≡ at_place e =
        ap₂ (λ p d. record { place = p; instance = d })
        (sym (ap (λ (o : Option Place). unwrap_or o no_place) is)) same in
        (first ∙ ap Some line, is ∙ ap (λ (q : Placed). Some q.place) line)

    pub AreAtFirstLines-waiting : AreAtFirstLines lines (not_done after.done commit.other) waiting
    AreAtFirstLines-waiting = record {
      instances = instances-pending left after.pending ∙ commit.pending;
      first = λ p h. let e = Contains-from_map at_place after.pending p h in
          subst (λ (q : Placed). first_line lines q.instance.id ≡ Some q) e.2
          (at_first e.0 e.1).0;
    }

    -- nothing is noted for an Id that no line names now
    none_noted : (x : Id) → first_line waiting x ≡ None → left x ≡ None
    none_noted x none = elim (is_among-cases executed x) [
      | inl done ↦ others.0 x done.1
      | inr new ↦ elim (first_line-cases lines x) [
        | inl free ↦ others.1 x new.1 ∙ ap (option_map place_of) free
        | inr some ↦
            let known = first_line-found lines x some.0 some.1 in
            let waits = waits_now some.0 known.0
            (λ there. new.1 (subst (Contains executed) known.1 there)) in
            let found = first_line-finds waiting (at_place some.0.instance)
            (Contains-map at_place after.pending some.0.instance waits) in
            let differ : None ≡ Some found.0 =
            sym none ∙ ap (first_line waiting) (sym known.1) ∙ found.1 in
            absurd (cc differ)
      ]
    ]

    noted_now : HasFirstPlaces left waiting
    noted_now x = elim (first_line-cases waiting x) [
      | inl none ↦ none_noted x none ∙ sym (ap (option_map place_of) none)
      | inr some ↦
          let known = first_line-found waiting x some.0 some.1 in
          let e = Contains-from_map at_place after.pending some.0 known.0 in
          let is : e.0.id ≡ x = ap (λ (q : Placed). q.instance.id) e.2 ∙ known.1 in
          ap left (sym is) ∙ (at_first e.0 e.1).1 ∙ ap (λ (q : Placed). Some q.place) e.2
          ∙ sym (ap (option_map place_of) some.1)
    ]

    -- the follower after the batch
    abbrev pub ended : FollowerView
    ended = record {
      done = after.done;
      store = after.store;
      pending = waiting;
      batch = [];
      next = before.next;
      is_open = false;
    }

    pub AreHeld-ended : AreHeld left ended
    AreHeld-ended = record {
      settled = subst (λ (m : List Instance).
          AllWait (record { done = after.done; store = after.store; pending = m }))
          (sym (instances-pending left after.pending)) settled;
      left = λ p h. absurd (Contains-nil p h);
      first_places = noted_now;
    }

    pub EndsBatch-ended : (came : ℕ) (text : List ℕ) → came ≡ count_new before commit.other
        → text ≡ batch_text came (length waiting) replies → EndsBatch before ended text
    EndsBatch-ended came text new is = record {
      other = commit.other;
      order = commit.order;
      merged = merged;
      ordered = commit.ordered;
      store = commit.store;
      done = commit.done;
      pending = AreAtFirstLines-waiting;
      closed = (refl, refl);
      next = refl;
      written = is
          ∙ ap₂ (λ n rs. batch_text n (length waiting) rs) new commit.replied;
    }

-- ---- the law

pub BatchIsACommit-holds : BatchIsACommit
BatchIsACommit-holds before after text left ends =
    let call = call_lines before.done (instances_of before.pending) (instances_of before.batch) in (
      zip (ranked_ids ends.order) (run_on before.done before.store ends.other ends.order).replies,
      record {
        other = ends.other;
        order = ends.order;
        merged = IsMerged-alike (held_lines before) call
            (HaveInstancesOf-call_real before.done before.pending before.batch left)
            (HaveInstancesOf-real_call before.done before.pending before.batch left) ends.other
            ends.merged;
        ordered = ends.ordered;
        store = ends.store;
        replied = refl;
        done = ends.done;
        pending = ends.pending.instances;
      },
      ends.written,
    )
