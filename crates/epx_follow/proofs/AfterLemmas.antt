-- A follower that goes on from an executor, whose waiting instances are on consecutive lines.
use Rattle.std.proofs.Common.{◌≡◌, ◌∙◌, ◌<◌, ◌+◌, ℕ, suc, false, List, [], ◌∷◌, ◌++◌, length, take}
use Rattle.std.proofs.Common.{get_or, Contains, Option, None, Some, option_map, arith}
use Rattle.std.proofs.Common.{refl, sym, ap, ap₂, subst}
use Rattle.std.specs.Option.{unwrap_or}
use Rattle.epx_types.proofs.Common.{Contains-cons, Contains-head, Contains-nil, Instance}
use Rattle.epx_types.proofs.Common.{IsRising, Placed, ids_of}
use Rattle.epx_types.specs.declared.id.Id.{Id}
use Rattle.epx_types.specs.declared.place.Place.{Place}
use Rattle.epx_executor.specs.CallLines.{lines_from}
use Rattle.epx_executor.specs.Commits.{AllWait, ExecutorView}
use Rattle.epx_executor.proofs.CallLineLemmas.{line_at, lines_from-more}
use Rattle.epx_follow.specs.FollowerLaws.{FollowerAfterHoldsTheSame}
use Rattle.epx_follow.specs.Following.{FollowerView, follower_after, instances_of}
use Rattle.epx_follow.specs.inner.FirstPlaces.{HasFirstPlaces, IsNoted}
use Rattle.epx_follow.specs.inner.HeldLines.{AreHeld, no_place, pending_lines}
use Rattle.epx_follow.proofs.BatchEndLemmas.{instances-pending}
use Rattle.epx_follow.proofs.FirstLineLemmas.{first_line-rising}
use Rattle.epx_follow.proofs.HeldLineLemmas.{HasFirstPlaces-push, place_of}
use Rattle.epx_follow.proofs.HoldLemmas.{shown}

-- ---- places on consecutive lines

pub HasFirstPlaces-nil : (noted : Id → Option Place) (log line : ℕ) (es : List Instance)
    → ((x : Id) → noted x ≡ None) → HasFirstPlaces noted (lines_from log line (take 0 es))
HasFirstPlaces-nil noted log line es none x = none x

-- one more of the places
pub HasFirstPlaces-lines_step : (before after : Id → Option Place) (log line : ℕ)
    (es : List Instance)
    (k : ℕ) (d : Instance) → k < length es
    → HasFirstPlaces before (lines_from log line (take k es))
    → IsNoted before (get_or es k d).id (record { log = log; line = line + k }) after
    → HasFirstPlaces after (lines_from log line (take (k + 1) es))
HasFirstPlaces-lines_step before after log line es k d l has noted =
    let e = get_or es k d in
    let earlier = lines_from log line (take k es) in
    let on : line + k ≡ k + line = omega arith in
    subst (HasFirstPlaces after)
    (ap (λ n. earlier ++ line_at log n e ∷ []) on ∙ sym (lines_from-more log line es k d l))
    (HasFirstPlaces-push before after (line_at log (line + k) e) noted earlier has)

instances-from : (log n : ℕ) (es : List Instance) → instances_of (lines_from log n es) ≡ es
instances-from log n [] = refl
instances-from log n (e ∷ es) = ap (λ ds. e ∷ ds) (instances-from log (suc n) es)

-- lines whose Ids rise are at the places that are noted for their instances
noted_lines : (noted : Id → Option Place) (lines : List Placed)
    → IsRising (ids_of (instances_of lines)) → HasFirstPlaces noted lines
    → pending_lines noted (instances_of lines) ≡ lines
noted_lines noted lines rising has = among lines (λ p h. h)
  where
    among : (some : List Placed) → ((p : Placed) → Contains some p → Contains lines p)
        → pending_lines noted (instances_of some) ≡ some
    among [] within = refl
    among (p ∷ some) within =
        let is : noted p.instance.id ≡ Some p.place =
        has p.instance.id ∙ ap (option_map place_of)
        (first_line-rising lines rising p (within p (Contains-head p some))) in
        ap₂ (λ (o : Option Place) (ls : List Placed).
        record { place = unwrap_or o no_place; instance = p.instance } ∷ ls) is
        (among some (λ q h. within q (Contains-cons p some q h)))

-- ---- the follower

pub FollowerAfterHoldsTheSame-holds : FollowerAfterHoldsTheSame
FollowerAfterHoldsTheSame-holds v log line =
    ap (λ (es : List Instance). record { done = v.done; store = v.store; pending = es })
    (instances-from log line v.pending)

module _ (noted : Id → Option Place) (v : ExecutorView) (log line : ℕ) (settled : AllWait v)
    (has : HasFirstPlaces noted (lines_from log line v.pending)) where
  pending_are : pending_lines noted v.pending ≡ lines_from log line v.pending
  pending_are =
      let is = instances-from log line v.pending in
      ap (pending_lines noted) (sym is)
      ∙ noted_lines noted (lines_from log line v.pending)
      (subst (λ (es : List Instance). IsRising (ids_of es)) (sym is) settled.rising) has

  abbrev pub begun : FollowerView
  begun = shown v.done v.store noted v.pending [] [] (record { log = 0; line = 1 }) false

  pub begun-is_after : begun ≡ follower_after v log line
  begun-is_after = ap (λ (ls : List Placed). record (follower_after v log line) { pending = ls })
      pending_are

  pub AreHeld-after : AreHeld noted begun
  AreHeld-after = record {
    settled = subst (λ (m : List Instance).
        AllWait (record { done = v.done; store = v.store; pending = m }))
        (sym (instances-pending noted v.pending)) settled;
    left = λ p h. absurd (Contains-nil p h);
    first_places = subst (HasFirstPlaces noted) (sym pending_are) has;
  }
