-- What is filed after a call waits there.
use Rattle.std.proofs.Common.{◌≡◌, ◌⊎◌, ℕ, List, [], Contains, Option, None, Some, IfSome, sym}
use Rattle.std.proofs.Common.{subst, inl, inr}
use Rattle.epx_types.proofs.Common.{ids_of, IsCommitted, remaining, Ranked, ranked_ids, Instance}
use Rattle.epx_types.proofs.Common.{Reaches, IsReady, Waiting, waiting_ids, IsReady-reached}
use Rattle.epx_types.proofs.Common.{Contains-nil, Contains-map, Contains-from_map}
use Rattle.epx_types.proofs.Common.{IsExecutionOrder-IsLawful, Contains-remaining_iff}
use Rattle.epx_types.specs.declared.id.Id.{Id}
use Rattle.epx_executor.specs.declared.choose.Choice.{Choice}
use Rattle.epx_executor.specs.inner.Batches.{IsCallBatch}
use Rattle.epx_executor.specs.inner.Choices.{AreFiledIn, CanRefile, IsBlockedIn, IsChoice}
use Rattle.epx_executor.specs.inner.Choices.{IsPassedOver, IsRefiled}
use Rattle.epx_executor.specs.inner.Filings.{Filings}
use Rattle.epx_executor.proofs.FilingLemmas.{IsFiled-under}
use Rattle.epx_executor.proofs.CallBatchLemmas.{IsUnion-merged, Contains-pending}
use Rattle.epx_executor.proofs.PartLemmas.{Reaches-left, Reaches-more, remaining-part}
use Rattle.epx_executor.proofs.RemainderLemmas.{remaining-twice}

module _ (done : List Id) (pending came : List Instance) (choice : Option Choice)
    (entries : List Instance) (order : List Ranked) (positions : List (Id × ℕ))
    (waiters : List Waiting) (now : List Id)
    (batch : IsCallBatch done pending came choice entries order positions waiters now) where
  abbrev before : List Instance
  before = remaining done batch.m

  abbrev after : List Instance
  after = remaining now batch.m

  executed_is_ready : (x : Id) → Contains (ranked_ids order) x → IsReady before x
  executed_is_ready = (IsExecutionOrder-IsLawful before order batch.ordered).only

  -- an instance that is blocked before is blocked after
  blocked_after : (x z : Id) → IsBlockedIn before x z → IsCommitted after x × Reaches after x z
  blocked_after x z is =
      let here = (Contains-remaining_iff done batch.m x).0 is.committed in
      let not_now : ¬ Contains now x = λ there. elim ((batch.done_now x).0 there) [
        | inl old ↦ here.1 old
        | inr new ↦ is.not_ready (IsReady-reached before x z is.reached (executed_is_ready x new))
      ] in (
        (Contains-remaining_iff now batch.m x).1 (here.0, not_now),
        subst (λ (m : List Instance). Reaches m x z)
            (remaining-twice done (ranked_ids order) now batch.m batch.done_now)
            (Reaches-left before (ranked_ids order) executed_is_ready x z is.reached
            is.not_ready),
      )

  waits_after : (w : Waiting) → Contains waiters w
      → IsCommitted after w.id × Reaches after w.id w.missing
  waits_after w h = blocked_after w.id w.missing (batch.waits w h)

  -- what is left is passed over or waits
  left_cases : (x : Id) → IsCommitted after x
      → ((e : Instance) × (e.id ≡ x) × IsPassedOver choice pending e)
      ⊎ Contains (waiting_ids waiters) x
  left_cases x h =
      let here = (Contains-remaining_iff now batch.m x).0 h in
      let e = Contains-from_map (λ (i : Instance). i.id) batch.m x here.0 in
      elim (batch.whole e.0 e.1) [
        | inl over ↦ inl (e.0, e.2, over)
        | inr there ↦ inr (subst (Contains (waiting_ids waiters)) e.2 (batch.waiting e.0 there
            (subst (λ (y : Id). ¬ Contains now y) (sym e.2) here.1)))
      ]

  -- if a call looked at all, all that waits can be filed anew
  can_file_all : ((e : Instance) → ¬ IsPassedOver choice pending e)
      → CanRefile after [] [] [] waiters
  can_file_all none = record {
    kept = λ x y h. absurd (Contains-nil (x, y) h);
    need_missing = λ x z h. absurd (Contains-nil (x, z) h);
    waiting = waits_after;
    whole = λ x h. elim (left_cases x h) [
      | inl over ↦ absurd (none over.0 over.2)
      | inr there ↦ inr there
    ];
  }

-- after a call that looked at a choice
can_refile : (done : List Id) (pending came : List Instance) (c : Choice)
    (entries : List Instance) (order : List Ranked) (positions : List (Id × ℕ))
    (waiters : List Waiting) (now : List Id)
    (batch : IsCallBatch done pending came (Some c) entries order positions waiters now)
    (filings : Filings) → AreFiledIn (remaining done pending) filings
    → IsChoice done pending came filings c.ids.items c.blocked.items
    → CanRefile (remaining now batch.m) filings c.ids.items c.blocked.items waiters
can_refile done pending came c entries order positions waiters now batch filings filed choice =
    let union = IsUnion-merged done pending came batch.m batch.merged in
    let old : (e : Instance) → Contains pending e → Contains batch.m e =
    Contains-pending done pending came (Some c) entries order positions waiters now batch in
    let after : (x z : Id) → IsBlockedIn (remaining done batch.m) x z
    → IsCommitted (remaining now batch.m) x × Reaches (remaining now batch.m) x z =
    blocked_after done pending came (Some c) entries order positions waiters now batch in
    record {
      kept = λ x y h out. after x y (record {
        committed =
            let here = (Contains-remaining_iff done pending x).0 ((filed.whole x).1
            (IsFiled-under filings x y h)) in
            let e = Contains-from_map (λ (i : Instance). i.id) pending x here.0 in
            (Contains-remaining_iff done batch.m x).1 (
              subst (λ (w : Id). Contains (ids_of batch.m) w) e.2
                  (Contains-map (λ (i : Instance). i.id) batch.m e.0 (old e.0 e.1)),
              here.1,
            );
        reached = Reaches-more (remaining done pending) (remaining done batch.m)
            (remaining-part done batch.m pending old) x y (filed.reach x y h);
        not_ready = choice.left batch.m union x y h out;
      });
      need_missing = λ x z h. after x z (choice.need_missing batch.m union x z h);
      waiting = waits_after done pending came (Some c) entries order positions waiters now batch;
      whole = λ x h.
          let cases = left_cases done pending came (Some c) entries order positions waiters now
          batch x h in
          elim cases [
            | inr there ↦ inr there
            | inl over ↦
                let there : Contains (ids_of pending) x =
                subst (λ (w : Id). Contains (ids_of pending) w) over.1
                (Contains-map (λ (i : Instance). i.id) pending over.0 over.2.0) in
                let left = ((Contains-remaining_iff now batch.m x).0 h).1 in
                inl (
                  (filed.whole x).0 ((Contains-remaining_iff done pending x).1 (
                    there,
                    λ d. left ((batch.done_now x).1 (inl d)),
                  )),
                  subst (λ (w : Id). ¬ Contains c.ids.items w) over.1 over.2.1,
                )
          ];
    }

-- what a call knows of its choice
abbrev pub IsChoiceOf : List Id → List Instance → List Instance → Option Filings → Option Choice
    → Type 0
IsChoiceOf done pending came before choice = IfSome choice (λ c. (filings : Filings)
    × (before ≡ Some filings)
    × IsChoice done pending came filings c.ids.items c.blocked.items)

-- exactly what waits after a call is filed after it
pub AreFiledIn-after : (before : Option Filings) (choice : Option Choice) (done : List Id)
    (pending came : List Instance) (entries : List Instance) (order : List Ranked)
    (positions : List (Id × ℕ)) (waiters : List Waiting) (now : List Id)
    (batch : IsCallBatch done pending came choice entries order positions waiters now)
    → IfSome before (AreFiledIn (remaining done pending))
    → IsChoiceOf done pending came before choice → (filings : Filings)
    → IsRefiled before choice waiters filings → AreFiledIn (remaining now batch.m) filings
AreFiledIn-after None None done pending came entries order positions waiters now batch filed is f
    h =
    h (remaining now batch.m) (can_file_all done pending came None entries order positions waiters
    now batch (λ e over. over))
AreFiledIn-after None (Some c) done pending came entries order positions waiters now batch filed is
    f h =
    absurd (cc is.1)
AreFiledIn-after (Some b) None done pending came entries order positions waiters now batch filed is
    f h =
    h (remaining now batch.m) (can_file_all done pending came None entries order positions waiters
    now batch (λ e over. over))
AreFiledIn-after (Some b) (Some c) done pending came entries order positions waiters now batch filed
    is f
    h =
    let same : is.0 ≡ b = cc is.1 in
    h (remaining now batch.m) (can_refile done pending came c entries order positions waiters now
    batch b filed (subst (λ (g : Filings).
    IsChoice done pending came g c.ids.items c.blocked.items) same is.2))
