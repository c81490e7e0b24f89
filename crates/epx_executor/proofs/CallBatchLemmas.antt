-- A call that looks at a part of the pending instances executes what is ready of all.
use Rattle.std.proofs.Common.{◌≡◌, ◌⊎◌, ◌↔◌, ℕ, List, Contains, Option, None, Some, IfSome}
use Rattle.std.proofs.Common.{sym, ◌∙◌, subst, inl, inr}
use Rattle.epx_types.proofs.Common.{ids_of, remaining, Ranked, ranked_ids, IsRising, Instance}
use Rattle.epx_types.proofs.Common.{IsReady, WaitsFor, Waiting, waiting_ids, Contains-Id_cases}
use Rattle.epx_types.proofs.Common.{IsReady-from_no_wait, Contains-map, Contains-from_map}
use Rattle.epx_types.proofs.Common.{IsExecutionOrder-IsLawful, Contains-remaining_iff}
use Rattle.epx_types.proofs.Common.{IsRising-remaining}
use Rattle.epx_types.specs.declared.id.Id.{Id}
use Rattle.epx_types.specs.declared.fault.Fault.{Fault}
use Rattle.epx_committed.specs.MergedLines.{IsMerged, IsMergeFault}
use Rattle.epx_executor.specs.declared.choose.Choice.{Choice}
use Rattle.epx_executor.specs.CallLines.{call_lines}
use Rattle.epx_executor.specs.inner.Batches.{IsMapBatch, IsCallBatch}
use Rattle.epx_executor.specs.inner.Choices.{IsBlockedIn, IsChoice, IsPart, IsPassedOver, IsUnion}
use Rattle.epx_executor.specs.inner.Filings.{Filings}
use Rattle.epx_executor.proofs.CallLineLemmas.{Contains-merged}
use Rattle.epx_executor.proofs.PartLemmas.{IsExecutionOrder-part, Reaches-more}
use Rattle.epx_executor.proofs.PartLemmas.{commands_in-part, remaining-part}
use Rattle.epx_executor.proofs.PartLineLemmas.{IsMerged-with_all, IsMergeFault-with_all}

-- the merged map is the union of what is pending and what came
pub IsUnion-merged : (done : List Id) (pending came m : List Instance)
    → IsMerged (call_lines done pending came) m → IsUnion done pending came m
IsUnion-merged done pending came m merged = record {
  rising = merged.committed.rising;
  same = Contains-merged done pending came m merged;
}

-- what is pending is in the map of the next batch
pub Contains-pending : (done : List Id) (pending came : List Instance) (choice : Option Choice)
    (entries : List Instance) (order : List Ranked) (positions : List (Id × ℕ))
    (waiters : List Waiting) (now : List Id)
    (batch : IsCallBatch done pending came choice entries order positions waiters now)
    (e : Instance) → Contains pending e → Contains batch.m e
Contains-pending done pending came choice entries order positions waiters now batch e h =
    (Contains-merged done pending came batch.m batch.merged e).1 (inl h)

-- ---- the batch of a part is that of the whole map

module _ (done : List Id) (pending came : List Instance) (choice : Option Choice)
    (m s : List Instance) (order : List Ranked) (positions : List (Id × ℕ))
    (waiters : List Waiting) (now : List Id)
    (batch : IsMapBatch done s s order positions waiters now)
    (merged : IsMerged (call_lines done pending came) m) (rising : IsRising (ids_of s))
    (within : (e : Instance) → Contains s e → Contains m e)
    (ready : (x : Id) → IsReady (remaining done m) x → Contains (ids_of (remaining done s)) x)
  where
    abbrev left : List Instance
    left = remaining done m

    abbrev part : List Instance
    part = remaining done s

    rising_left : IsRising (ids_of left)
    rising_left = IsRising-remaining done m merged.committed.rising

    rising_part : IsRising (ids_of part)
    rising_part = IsRising-remaining done s rising

    -- an instance that waits in the part waits in the whole map, behind one that is not ready there
    blocked : (w : Waiting) → WaitsFor part w.id w.missing → IsBlockedIn left w.id w.missing
    blocked w waits = record {
      committed =
          let here = (Contains-remaining_iff done s w.id).0 waits.committed in
          let e = Contains-from_map (λ (i : Instance). i.id) s w.id here.0 in
          (Contains-remaining_iff done m w.id).1 (
            subst (λ (x : Id). Contains (ids_of m) x) e.2
                (Contains-map (λ (i : Instance). i.id) m e.0 (within e.0 e.1)),
            here.1,
          );
      reached = Reaches-more part left (remaining-part done m s within) w.id w.missing
          waits.reached;
      not_ready = λ is. waits.missing (ready w.missing is);
    }

    -- an instance of the part that is not done then waits
    must_wait : (e : Instance) → Contains s e → ¬ Contains now e.id
        → Contains (waiting_ids waiters) e.id
    must_wait e h not_now =
        elim (Contains-Id_cases (waiting_ids waiters) e.id) [
          | inl there ↦ there
          | inr none ↦
              let not_done : ¬ Contains done e.id =
              λ old. not_now ((batch.done_now e.id).1 (inl old)) in
              let committed : Contains (ids_of part) e.id = (Contains-remaining_iff done s e.id).1
              (Contains-map (λ (i : Instance). i.id) s e h, not_done) in
              let is : IsReady part e.id = IsReady-from_no_wait part e.id committed
              (λ y waits. none (Contains-map (λ (w : Waiting). w.id) waiters
              (record { id = e.id; missing = y }) (batch.waiting.whole e.id y waits))) in
              absurd (not_now ((batch.done_now e.id).1 (inr (batch.ordered.whole e.id is))))
        ]

    in_part : (x : Id) → Contains (ranked_ids order) x → Contains (ids_of s) x
    in_part x there =
        let is = (IsExecutionOrder-IsLawful part order batch.ordered).only x there in
        ((Contains-remaining_iff done s x).0 is.committed).0

    pub IsCallBatch-part : ((e : Instance) → Contains m e
        → IsPassedOver choice pending e ⊎ Contains s e)
        → IsCallBatch done pending came choice s order positions waiters now
    IsCallBatch-part whole = record {
      m = m;
      merged = merged;
      rising = rising;
      within = within;
      whole = whole;
      ordered = IsExecutionOrder-part left part rising_left rising_part
          (remaining-part done m s within) ready order batch.ordered;
      found = batch.found ∙ commands_in-part m s merged.committed.rising rising within
          (ranked_ids order) in_part;
      waits = λ w h. blocked w (batch.waiting.waits w h);
      waiting = must_wait;
      done_now = batch.done_now;
    }

-- ---- a call that looks at all

next_of_all : (done : List Id) (pending came s : List Instance) (order : List Ranked)
    (positions : List (Id × ℕ)) (waiters : List Waiting) (now : List Id)
    → IsMapBatch done s s order positions waiters now → IsMerged (call_lines done pending came) s
    → IsCallBatch done pending came None s order positions waiters now
next_of_all done pending came s order positions waiters now batch merged =
    IsCallBatch-part done pending came None s s order positions waiters now batch merged
    merged.committed.rising (λ e h. h) (λ x is. is.committed) (λ e h. inr h)

-- ---- a call that looks at a choice

module _ (done : List Id) (pending came : List Instance) (filings : Filings) (c : Choice)
    (rising : IsRising (ids_of pending))
    (choice : IsChoice done pending came filings c.ids.items c.blocked.items)
    (part : List Instance) (is : IsPart (Some c) pending part) where
  abbrev Alike : Type 0
  Alike = (p e : Instance) → Contains pending p → Contains came e → ¬ Contains done e.id
      → p.id ≡ e.id → p ≡ e

  alike : Alike
  alike p e old new left same = choice.alike e new left p old same

  fault_of_choice : (f : Fault) → IsMergeFault (call_lines done part came) f
      → IsMergeFault (call_lines done pending came) f
  fault_of_choice = IsMergeFault-with_all done pending part came rising is.0 choice.few alike

  module _ (s : List Instance) (order : List Ranked) (positions : List (Id × ℕ))
      (waiters : List Waiting) (now : List Id)
      (batch : IsMapBatch done s s order positions waiters now)
      (merged : IsMerged (call_lines done part came) s) where
    all : (m : List Instance) × IsMerged (call_lines done pending came) m
        × ((e : Instance) → Contains m e ↔ (Contains pending e ⊎ Contains s e))
    all = IsMerged-with_all done pending part came rising is.0 choice.few alike s merged

    chosen : (e : Instance) → Contains pending e → Contains c.ids.items e.id → Contains s e
    chosen e old there = (Contains-merged done part came s merged e).1 (inl (is.1 e old there))

    ready : (x : Id) → IsReady (remaining done all.0) x → Contains (ids_of (remaining done s)) x
    ready x h =
        let here = (Contains-remaining_iff done all.0 x).0 h.committed in
        let e = Contains-from_map (λ (i : Instance). i.id) all.0 x here.0 in
        let named : Instance → Type 0 = λ (i : Instance). Contains (ids_of s) i.id in
        let there : Contains s e.0 = elim ((all.2 e.0).0 e.1) [
          | inr new ↦ new
          | inl old ↦ chosen e.0 old (choice.whole all.0
              (IsUnion-merged done pending came all.0 all.1) e.0.id
              (Contains-map (λ (i : Instance). i.id) pending e.0 old)
              (subst (IsReady (remaining done all.0)) (sym e.2) h))
        ] in
        (Contains-remaining_iff done s x).1 (
          subst (λ (y : Id). Contains (ids_of s) y) e.2
              (Contains-map (λ (i : Instance). i.id) s e.0 there),
          here.1,
        )

    next_of_choice : IsCallBatch done pending came (Some c) s order positions waiters now
    next_of_choice =
        IsCallBatch-part done pending came (Some c) all.0 s order positions waiters now batch all.1
        merged.committed.rising (λ e h. (all.2 e).1 (inr h)) ready
        (λ e h. elim ((all.2 e).0 h) [
          | inr new ↦ inr new
          | inl old ↦ elim (Contains-Id_cases c.ids.items e.id) [
            | inl there ↦ inr (chosen e old there)
            | inr none ↦ inl (old, none)
          ]
        ])

-- ---- either way

-- a choice is sound
abbrev pub IsSoundChoice : List Id → List Instance → List Instance → Option Choice → Type 0
IsSoundChoice done pending came choice = IfSome choice (λ c. (filings : Filings)
    × IsChoice done pending came filings c.ids.items c.blocked.items)

pub Contains-from_part : (choice : Option Choice) (pending part : List Instance)
    → IsPart choice pending part → (e : Instance) → Contains part e → Contains pending e
Contains-from_part None pending part is e h = subst (λ (es : List Instance). Contains es e) is h
Contains-from_part (Some c) pending part is e h = is.0 e h

pub IsCallBatch-from_part : (choice : Option Choice) (done : List Id)
    (pending came part s : List Instance)
    (order : List Ranked) (positions : List (Id × ℕ)) (waiters : List Waiting) (now : List Id)
    → IsRising (ids_of pending) → IsSoundChoice done pending came choice
    → IsPart choice pending part → IsMerged (call_lines done part came) s
    → IsMapBatch done s s order positions waiters now
    → IsCallBatch done pending came choice s order positions waiters now
IsCallBatch-from_part None done pending came part s order positions waiters now rising sound is
    merged batch =
    next_of_all done pending came s order positions waiters now batch
    (subst (λ (es : List Instance). IsMerged (call_lines done es came) s) is merged)
IsCallBatch-from_part (Some c) done pending came part s order positions waiters now rising sound is
    merged batch =
    next_of_choice done pending came sound.0 c rising sound.1 part is s order positions waiters now
    batch merged

pub IsMergeFault-from_part : (choice : Option Choice) (done : List Id)
    (pending came part : List Instance)
    → IsRising (ids_of pending) → IsSoundChoice done pending came choice
    → IsPart choice pending part → (f : Fault) → IsMergeFault (call_lines done part came) f
    → IsMergeFault (call_lines done pending came) f
IsMergeFault-from_part None done pending came part rising sound is f h =
    subst (λ (es : List Instance). IsMergeFault (call_lines done es came) f) is h
IsMergeFault-from_part (Some c) done pending came part rising sound is f h =
    fault_of_choice done pending came sound.0 c rising sound.1 part is f h
