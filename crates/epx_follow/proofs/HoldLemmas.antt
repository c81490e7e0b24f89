-- The lines that a follower holds, as it keeps them, after one more line of an instance.
use Rattle.std.proofs.Common.{◌≡◌, inl, inr, ◌∙◌, Bool, true, List, [], ◌∷◌, ◌++◌, length}
use Rattle.std.proofs.Common.{Contains, Option, if◌then◌else◌, refl, sym, ap, ap₂, subst}
use Rattle.epx_types.proofs.Common.{Contents, Instance, Placed, is_among-false}
use Rattle.epx_types.proofs.remaining.RemainingLemmas.{is_among-cases}
use Rattle.epx_types.specs.declared.id.Id.{Id}
use Rattle.epx_types.specs.declared.place.Place.{Place}
use Rattle.epx_follow.specs.Following.{FollowerView, joined, next_line, passed}
use Rattle.epx_follow.specs.inner.HeldLines.{AreHeld, batch_lines, pending_lines}
use Rattle.epx_follow.proofs.BatchEndLemmas.{batch_lines-push}
use Rattle.epx_follow.proofs.HeldLineLemmas.{Contains-push_each, AreHeld-with_line, with_line}

-- a line of an executed instance is passed over
pub joined-done : (v : FollowerView) (e : Instance) → Contains v.done e.id → joined v e ≡ passed v
joined-done v e h = elim (is_among-cases v.done e.id) [
  | inl found ↦ let among = found.0 in rw among refl
  | inr missed ↦ absurd (missed.1 h)
]

-- one of another instance joins the batch
pub joined-new : (v : FollowerView) (e : Instance) → ¬ Contains v.done e.id
    → joined v e ≡ with_line v e
joined-new v e new = let other = is_among-false v.done e.id new in rw other refl

-- what holds of the batch, and of a line that joins it, holds of the batch with this line
pub Contains-joined : (P : Placed → Type 0) (v : FollowerView) (e : Instance)
    → ((p : Placed) → Contains v.batch p → P p)
    → (¬ Contains v.done e.id → P (record { place = v.next; instance = e }))
    → (p : Placed) → Contains (joined v e).batch p → P p
Contains-joined P v e old new p h =
    let line : Placed = record { place = v.next; instance = e } in
    let within : Bool → Type 0 = λ b. Contains (if b then v.batch else v.batch ++ line ∷ []) p in
    elim (is_among-cases v.done e.id) [
      | inl executed ↦ old p (subst within executed.0 h)
      | inr left ↦ Contains-push_each P v.batch line old (new left.1) p (subst within left.0 h)
    ]

-- what a follower shows of what it keeps
abbrev pub shown : List Id → Contents → (Id → Option Place) → List Instance → List Place
    → List Instance → Place → Bool → FollowerView
shown done store noted pending places batch next is_open = record {
  done = done;
  store = store;
  pending = pending_lines noted pending;
  batch = batch_lines places batch;
  next = next;
  is_open = is_open;
}

module _ (done : List Id) (store : Contents) (noted : Id → Option Place)
    (pending : List Instance) (places more : List Place) (batch longer : List Instance)
    (next : Place) (is_open : Bool) (e : Instance)
    (held : AreHeld noted (shown done store noted pending places batch next is_open))
    (same : length places ≡ length batch) (new : ¬ Contains done e.id)
    (place_more : more ≡ places ++ next ∷ []) (one_more : longer ≡ batch ++ e ∷ []) where
  abbrev was : FollowerView
  was = shown done store noted pending places batch next is_open

  abbrev now : FollowerView
  now = shown done store noted pending more longer (next_line next) true

  now_is : with_line was e ≡ now
  now_is = ap (λ (came : List Placed). record {
    done = done;
    store = store;
    pending = pending_lines noted pending;
    batch = came;
    next = next_line next;
    is_open = true;
  }) (sym (ap₂ batch_lines place_more one_more ∙ batch_lines-push places batch next e same))

  pub AreHeld-now : AreHeld noted now
  AreHeld-now = subst (AreHeld noted) now_is (AreHeld-with_line noted was e held new)

  pub joined-now : now ≡ joined was e
  joined-now = sym now_is ∙ sym (joined-new was e new)
