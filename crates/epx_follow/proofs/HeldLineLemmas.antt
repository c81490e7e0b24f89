-- The lines that a follower holds, after a line without an instance, and after one of an instance.
use Rattle.std.proofs.Common.{◌≡◌, inl, inr, ◌∙◌, List, [], ◌∷◌, ◌++◌, Contains, Option, None}
use Rattle.std.proofs.Common.{Some, MatchOption, option_map, true, sym, ap, subst}
use Rattle.epx_types.proofs.Common.{Contains-append_cases, Contains-cons_cases, Contains-nil}
use Rattle.epx_types.proofs.Common.{Id-cases, Instance, Placed}
use Rattle.epx_types.specs.declared.id.Id.{Id}
use Rattle.epx_types.specs.declared.place.Place.{Place}
use Rattle.epx_follow.specs.BatchEnds.{first_line}
use Rattle.epx_follow.specs.Following.{FollowerView, at_next_log, next_line, passed}
use Rattle.epx_follow.specs.inner.FirstPlaces.{HasFirstPlaces, IsNoted}
use Rattle.epx_follow.specs.inner.HeldLines.{AreHeld}
use Rattle.epx_follow.proofs.FirstLineLemmas.{first_line-cases, first_line-earlier}
use Rattle.epx_follow.proofs.FirstLineLemmas.{first_line-later, first_line-one}
use Rattle.epx_follow.proofs.FirstLineLemmas.{first_line-other}

-- ---- a line without an instance, and the end of a log

pub AreHeld-passed : (noted : Id → Option Place) (v : FollowerView) → AreHeld noted v
    → AreHeld noted (passed v)
AreHeld-passed noted v h =
    record { settled = h.settled; left = h.left; first_places = h.first_places }

pub AreHeld-next_log : (noted : Id → Option Place) (v : FollowerView) → AreHeld noted v
    → AreHeld noted (at_next_log v)
AreHeld-next_log noted v h =
    record { settled = h.settled; left = h.left; first_places = h.first_places }

-- ---- what is noted

abbrev pub place_of : Placed → Place
place_of p = p.place

-- ---- one more line

-- what holds of some lines, and of one more, holds of all
pub Contains-push_each : (P : Placed → Type 0) (lines : List Placed) (l : Placed)
    → ((p : Placed) → Contains lines p → P p) → P l
    → (p : Placed) → Contains (lines ++ l ∷ []) p → P p
Contains-push_each P lines l old new p h = elim (Contains-append_cases lines (l ∷ []) p h) [
  | inl earlier ↦ old p earlier
  | inr last ↦ elim (Contains-cons_cases l [] p last)
      [ inl here ↦ subst P here new | inr none ↦ absurd (Contains-nil p none) ]
]

module _ (before after : Id → Option Place) (l : Placed)
    (noted : IsNoted before l.instance.id l.place after) where
  abbrev id : Id
  id = l.instance.id

  -- what was noted stays
  pub IsNoted-stays : (x : Id) (p : Place) → before x ≡ Some p → after x ≡ Some p
  IsNoted-stays x p e = elim (Id-cases x id) [
    | inl here ↦
        let was : before id ≡ Some p = ap before (sym here) ∙ e in
        ap after here ∙ subst (λ (o : Option Place). MatchOption o (after id ≡ Some l.place)
        (λ q. after id ≡ Some q)) was noted.0
    | inr other ↦ noted.1 x other ∙ e
  ]

  -- where none was noted, it is the place of the line
  newly_noted : before id ≡ None → after id ≡ Some l.place
  newly_noted none = subst (λ (o : Option Place). MatchOption o (after id ≡ Some l.place)
      (λ q. after id ≡ Some q)) none noted.0

  noted_last : (x : Id) → before x ≡ None → after x ≡ option_map place_of (first_line (l ∷ []) x)
  noted_last x none = elim (Id-cases x id) [
    | inl here ↦ ap after here ∙ newly_noted (ap before (sym here) ∙ none)
        ∙ sym (ap (option_map place_of) (first_line-one l x here))
    | inr other ↦ noted.1 x other ∙ none
        ∙ sym (ap (option_map place_of) (first_line-other l x other))
  ]

  pub HasFirstPlaces-push : (lines : List Placed) → HasFirstPlaces before lines
      → HasFirstPlaces after (lines ++ l ∷ [])
  HasFirstPlaces-push lines has x = elim (first_line-cases lines x) [
    | inl none ↦ noted_last x (has x ∙ ap (option_map place_of) none)
        ∙ sym (ap (option_map place_of) (first_line-later lines (l ∷ []) x none))
    | inr some ↦ IsNoted-stays x some.0.place (has x ∙ ap (option_map place_of) some.1)
        ∙ sym (ap (option_map place_of) (first_line-earlier lines (l ∷ []) x some.0 some.1))
  ]

-- ---- a line of an instance

-- the batch with a line of the instance
abbrev pub with_line : FollowerView → Instance → FollowerView
with_line v e = record v {
  batch = v.batch ++ record { place = v.next; instance = e } ∷ [];
  next = next_line v.next;
  is_open = true;
}

pub AreHeld-with_line : (noted : Id → Option Place) (v : FollowerView) (e : Instance)
    → AreHeld noted v
    → ¬ Contains v.done e.id → AreHeld noted (with_line v e)
AreHeld-with_line noted v e h new = record {
  settled = h.settled;
  left = Contains-push_each (λ p. ¬ Contains v.done p.instance.id) v.batch
      (record { place = v.next; instance = e }) h.left new;
  first_places = h.first_places;
}
