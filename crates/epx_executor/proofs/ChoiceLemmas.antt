-- Pending instances that cannot be ready yet.
use Rattle.std.proofs.Common.{◌≡◌, ◌⊎◌, ◌↔◌, ◌+◌, ◌<◌, ◌≤◌, ℕ, List, [], ◌∷◌, ◌++◌, length, get_or}
use Rattle.std.proofs.Common.{take, map, Contains, sym, subst, inl, inr}
use Rattle.epx_types.proofs.Common.{take_all, take_more, Contains-append_cases}
use Rattle.epx_types.proofs.Common.{Contains-append_right, ids_of, IsCommitted, remaining, Instance}
use Rattle.epx_types.proofs.Common.{max_instances, DependsOn, Reaches, IsReady, Reaches-trans}
use Rattle.epx_types.proofs.Common.{Reaches-dependency, IsReady-reached, Contains-nil}
use Rattle.epx_types.proofs.Common.{Contains-head, Contains-map, Contains-cons_cases}
use Rattle.epx_types.proofs.Common.{Contains-from_map, Contains-remaining_iff, DependsOn-remaining}
use Rattle.epx_types.proofs.Common.{is_among-cases}
use Rattle.epx_types.specs.declared.id.Id.{Id}
use Rattle.epx_executor.specs.inner.Choices.{AgreesWith, AreBlocked, AreFiledIn, IsBlockedIn}
use Rattle.epx_executor.specs.inner.Choices.{IsChoice, IsNeededBy, IsSortedOut, IsUnion}
use Rattle.epx_executor.specs.inner.Choices.{NeedsMissing}
use Rattle.epx_executor.specs.inner.Filings.{AreFilings, Filings, IsBehind, IsBlockedBy, IsFiled}
use Rattle.epx_executor.specs.inner.Filings.{IsWay}
use Rattle.epx_executor.proofs.PartLemmas.{Reaches-more, remaining-part}

-- ---- loops over a list

module _ {X : Type 0} (P : X → Type 0) (xs : List X) (k : ℕ) where
  -- what holds of the elements before one and of that one
  pub take-each_more : (d : X) → k < length xs → ((x : X) → Contains (take k xs) x → P x)
      → P (get_or xs k d) → (x : X) → Contains (take (k + 1) xs) x → P x
  take-each_more d l before here x h =
      elim (Contains-append_cases (take k xs) (get_or xs k d ∷ []) x
      (subst (λ (ys : List X). Contains ys x) (take_more xs k d l) h)) [
        | inl old ↦ before x old
        | inr new ↦ elim (Contains-cons_cases (get_or xs k d) [] x new) [
          | inl same ↦ subst P same here
          | inr none ↦ absurd (Contains-nil x none)
        ]
      ]

  -- what holds of all elements before the end
  pub take-each_at_end : length xs ≤ k → ((x : X) → Contains (take k xs) x → P x) → (x : X)
      → Contains xs x → P x
  take-each_at_end l before x h =
      before x (subst (λ (ys : List X). Contains ys x) (sym (take_all k xs l)) h)

module _ {X : Type 0} (xs ys : List X) (x : X) (is : ys ≡ xs ++ x ∷ []) where
  -- the elements of a list to which one was added
  pub Contains-push_cases : (y : X) → Contains ys y → Contains xs y ⊎ (x ≡ y)
  Contains-push_cases y h =
      elim (Contains-append_cases xs (x ∷ []) y (subst (λ (l : List X). Contains l y) is h)) [
        | inl old ↦ inl old
        | inr new ↦ elim (Contains-cons_cases x [] y new) [
          | inl same ↦ inr same
          | inr none ↦ absurd (Contains-nil y none)
        ]
      ]

  pub Contains-push : Contains ys x
  Contains-push = subst (λ (l : List X). Contains l x) (sym is)
      (Contains-append_right xs (x ∷ []) x (Contains-head x []))

-- ---- instances that came, as they are sorted out

-- a call that notes more keeps what it knew of an instance
pub IsSortedOut-more : (done : List Id) (filings : Filings) (roots roots' : List Id)
    (blocked blocked' : List (Id × Id)) (e : Instance)
    → ((x : Id) → Contains roots x → Contains roots' x)
    → ((x z : Id) → Contains blocked (x, z) → Contains blocked' (x, z))
    → IsSortedOut done filings roots blocked e → IsSortedOut done filings roots' blocked' e
IsSortedOut-more done filings roots roots' blocked blocked' e more_roots more_blocked sorted left =
    elim (sorted left) [
      | inl root ↦ inl (more_roots e.id root)
      | inr other ↦ inr (elim other [
        | inl free ↦ inl free
        | inr need ↦ inr (need.0, more_blocked e.id need.0 need.1)
      ])
    ]

-- ---- ways

-- the last instance of a way is filed under its end
last_step : (filings : Filings) (x : Id) (via : List Id) (y : Id) → IsWay filings x via y
    → (w : Id) × Contains filings (w, y)
last_step filings x [] y h = (x, h)
last_step filings x (z ∷ via) y h = last_step filings z via y h.1

module _ (done : List Id) (pending came m : List Instance) (filings : Filings)
    (filed : AreFiledIn (remaining done pending) filings)
    (union : IsUnion done pending came m) where
  -- what is not done when those that came are pending too
  abbrev left : List Instance
  left = remaining done m

  -- an instance reaches that behind which it waits
  step_reaches : (x y : Id) → Contains filings (x, y) → Reaches left x y
  step_reaches x y h =
      Reaches-more (remaining done pending) left
      (remaining-part done m pending (λ e k. (union.same e).1 (inl k))) x y (filed.reach x y h)

  way_reaches : (x : Id) (via : List Id) (y : Id) → IsWay filings x via y → Reaches left x y
  way_reaches x [] y h = step_reaches x y h
  way_reaches x (z ∷ via) y h =
      Reaches-trans left x z y (step_reaches x z h.0) (way_reaches z via y h.1)

  behind_reaches : (x y : Id) → IsBehind filings x y → Reaches left x y
  behind_reaches x y h = way_reaches x h.0 y h.1

  -- an instance that is left is pending or came
  committed_from : (x : Id) → IsCommitted left x → (e : Instance) × (e.id ≡ x)
      × (¬ Contains done x) × (Contains pending e ⊎ Contains came e)
  committed_from x h =
      let there = (Contains-remaining_iff done m x).0 h in
      let e = Contains-from_map (λ (i : Instance). i.id) m x there.0 in (
        e.0,
        e.2,
        there.1,
        elim ((union.same e.0).0 e.1) [ inl old ↦ inl old | inr new ↦ inr new.0 ],
      )

  -- a pending instance that is not done is filed
  pending_filed : (e : Instance) → Contains pending e → ¬ Contains done e.id
      → IsFiled filings e.id
  pending_filed e h left_out =
      (filed.whole e.id).0 ((Contains-remaining_iff done pending e.id).1 (
        Contains-map (λ (i : Instance). i.id) pending e h,
        left_out,
      ))

  module _ (came_ids : List Id)
      (exact : (x : Id) → Contains came_ids x ↔ Contains (ids_of came) x)
      (blocked : List (Id × Id))
      (needs : AreBlocked done pending came came_ids filings blocked) where
    -- ---- those that came and need a missing instance

    needed_is_missing : (d z : Id) → IsNeededBy done pending came_ids filings d z
        → ¬ IsCommitted left z
    needed_is_missing d z needed h =
        let e = committed_from z h in
        elim e.3 [
          | inl old ↦ needed.not_pending (subst (Contains (ids_of pending)) e.1
              (Contains-map (λ (i : Instance). i.id) pending e.0 old))
          | inr new ↦ needed.not_came ((exact z).1 (subst (Contains (ids_of came)) e.1
              (Contains-map (λ (i : Instance). i.id) came e.0 new)))
        ]

    needed_is_reached : (d z : Id) → IsNeededBy done pending came_ids filings d z
        → Reaches left d z
    needed_is_reached d z needed =
        elim needed.behind [
          | inl same ↦ inl same
          | inr way ↦ behind_reaches d z way.behind
        ]

    -- each of them is blocked
    blocked_in : (x z : Id) → Contains blocked (x, z) → IsBlockedIn left x z
    blocked_in x z h =
        let e = needs x z h in
        let missing : NeedsMissing done pending came_ids filings e.0 z = e.4 in
        let in_m : Contains m e.0 = (union.same e.0).1 (inr (
          e.1,
          subst (λ (y : Id). ¬ Contains done y) (sym e.2) e.3,
        )) in
        let d = missing.0 in
        let needed : IsNeededBy done pending came_ids filings d z = missing.2 in
        let on : DependsOn left x d = (DependsOn-remaining done m x d).1 (
          (e.0, in_m, e.2, missing.1),
          e.3,
          needed.left,
        ) in
        record {
          committed = (Contains-remaining_iff done m x).1 (
            subst (Contains (ids_of m)) e.2 (Contains-map (λ (i : Instance). i.id) m e.0 in_m),
            e.3,
          );
          reached = Reaches-trans left x d z (Reaches-dependency left x d on)
              (needed_is_reached d z needed);
          not_ready = λ ready. needed_is_missing d z needed ready.committed;
        }

    module _ (are : AreFilings filings) (roots ids : List Id)
        (sorted : (e : Instance) → Contains came e → IsSortedOut done filings roots blocked e)
        (behind : (x y : Id) → Contains roots y → IsBehind filings x y → Contains ids x) where
      -- ---- pending instances that are not looked at

      -- the last Id behind which one waits is not ready
      blocker_not_ready : (x y : Id) → IsBlockedBy filings x y → ¬ Contains ids x
          → ¬ IsReady left y
      blocker_not_ready x y way passed ready =
          let e = committed_from y ready.committed in
          let not_done : ¬ Contains done e.0.id =
          subst (λ (z : Id). ¬ Contains done z) (sym e.1) e.2 in
          elim e.3 [
            | inl old ↦ way.last (subst (IsFiled filings) e.1 (pending_filed e.0 old not_done))
            | inr new ↦ elim (sorted e.0 new not_done) [
              | inl root ↦ passed (behind x y (subst (Contains roots) e.1 root) way.behind)
              | inr other ↦ elim other [
                | inl free ↦
                    let step = last_step filings x way.behind.0 y way.behind.1 in
                    free step.0 (subst (λ (z : Id). Contains filings (step.0, z)) (sym e.1) step.1)
                | inr need ↦
                    let b = blocked_in e.0.id need.0 need.1 in
                    b.not_ready (IsReady-reached left e.0.id need.0 b.reached
                    (subst (IsReady left) (sym e.1) ready))
              ]
            ]
          ]

      -- that under which it is filed is not ready
      step_not_ready : (x y : Id) → Contains filings (x, y) → ¬ Contains ids x
          → ¬ IsReady left y
      step_not_ready x y h passed ready =
          elim (is_among-cases (map (λ (f : Id × Id). f.0) filings) y) [
            | inl found ↦
                let on = are.blocked y found.1 in
                let way : IsBlockedBy filings x on.0 = record {
                  behind = (y ∷ on.1.behind.0, (h, on.1.behind.1));
                  last = on.1.last;
                } in
                blocker_not_ready x on.0 way passed
                (IsReady-reached left y on.0 (behind_reaches y on.0 on.1.behind) ready)
            | inr none ↦ blocker_not_ready x y (record {
              behind = ([], h);
              last = none.1;
            }) passed ready
          ]

      -- all pending instances that are ready are looked at
      ready_among : ((e : Instance) → Contains pending e → ¬ Contains done e.id) → (x : Id)
          → Contains (ids_of pending) x → IsReady left x → Contains ids x
      ready_among undone x h ready =
          elim (is_among-cases ids x) [
            | inl found ↦ found.1
            | inr none ↦
                let e = Contains-from_map (λ (i : Instance). i.id) pending x h in
                let on = are.blocked x (subst (IsFiled filings) e.2
                (pending_filed e.0 e.1 (undone e.0 e.1))) in
                absurd (blocker_not_ready x on.0 on.1 none.1
                (IsReady-reached left x on.0 (behind_reaches x on.0 on.1.behind) ready))
          ]

-- ---- the choice

-- what a call knows once it has sorted out all that came, and looked behind the roots
pub record IsGathered (done : List Id) (pending came : List Instance) (filings : Filings)
    (came_ids roots ids : List Id) (blocked : List (Id × Id)) : Type 0 where
  pub undone : (e : Instance) → Contains pending e → ¬ Contains done e.id
  pub filed : AreFiledIn (remaining done pending) filings
  pub are : AreFilings filings
  pub exact : (x : Id) → Contains came_ids x ↔ Contains (ids_of came) x
  pub needs : AreBlocked done pending came came_ids filings blocked
  pub sorted : (e : Instance) → Contains came e → IsSortedOut done filings roots blocked e
  pub behind : (x y : Id) → Contains roots y → IsBehind filings x y → Contains ids x

pub IsChoice-gathered : (done : List Id) (pending came : List Instance) (filings : Filings)
    (came_ids roots ids : List Id) (blocked : List (Id × Id))
    → length pending + length came ≤ max_instances
    → ((e : Instance) → Contains came e → AgreesWith done pending e)
    → IsGathered done pending came filings came_ids roots ids blocked
    → IsChoice done pending came filings ids blocked
IsChoice-gathered done pending came filings came_ids roots ids blocked few alike g = record {
  few = few;
  alike = alike;
  whole = λ m union. ready_among done pending came m filings g.filed union came_ids g.exact blocked
      g.needs g.are roots ids g.sorted g.behind g.undone;
  need_missing = λ m union. blocked_in done pending came m filings g.filed union came_ids g.exact
      blocked g.needs;
  left = λ m union. step_not_ready done pending came m filings g.filed union came_ids g.exact
      blocked g.needs g.are roots ids g.sorted g.behind;
}
