-- Sums over the seat states of all views, after one view is written or added.
use Rattle.std.proofs.Common.{◌≡◌, ℕ, ◌+◌, ◌≤◌, List, [], ◌∷◌, ◌++◌, set, take, drop, sym, ap, ◌∙◌}
use Rattle.std.proofs.Common.{arith, zero, suc}
use mathlib.Core.Option.{some, some-ne-none}
use lib.ListN.{get_elem?}
use Rattle.atomic_table.proofs.Lists.{set_again}
use Rattle.epx_claims.specs.declared.seat_state.SeatState.{SeatState}
use Rattle.epx_claims.specs.declared.seat_state.View.{View}
use Rattle.epx_claims.specs.between.Count.{total}
use Rattle.epx_claims.specs.inner.Rule.{all_seat_states, spent_view}
use Rattle.epx_claims.proofs.CountLemmas.{total-append}

-- the seat states of all views but one
abbrev pub others : List View → ℕ → List SeatState
others vs i = all_seat_states (set vs i spent_view)

module _ (f : SeatState → ℕ) where
  -- one view is written
  pub total-set : (vs : List View) (i : ℕ) (v w : View) → get_elem? vs i ≡ some v
      → total f (all_seat_states (set vs i w)) ≡ total f w.seat_states + total f (others vs i)
  total-set [] i v w e = absurd (some-ne-none v (sym e))
  total-set (x ∷ xs) zero v w e = total-append f w.seat_states (all_seat_states xs)
  total-set (x ∷ xs) (suc i) v w e =
      omega (
        arith,
        total-append f x.seat_states (all_seat_states (set xs i w)),
        total-append f x.seat_states (others xs i),
        total-set xs i v w e,
      )

  -- one view is taken out
  pub total-picked : (vs : List View) (i : ℕ) (v : View) → get_elem? vs i ≡ some v
      → total f (all_seat_states vs) ≡ total f v.seat_states + total f (others vs i)
  total-picked vs i v e = ap (λ z. total f (all_seat_states z)) (sym (set_again vs i v e))
      ∙ total-set vs i v v e

  -- one view is added
  pub total-push : (vs : List View) (w : View)
      → total f (all_seat_states (vs ++ w ∷ [])) ≡ total f (all_seat_states vs)
      + total f w.seat_states
  total-push [] w = omega (arith, total-append f w.seat_states [])
  total-push (x ∷ xs) w =
      omega (
        arith,
        total-append f x.seat_states (all_seat_states xs),
        total-append f x.seat_states (all_seat_states (xs ++ w ∷ [])),
        total-push xs w,
      )

  -- a list in two parts
  pub total-parts : (hs : List SeatState) → total f (take 1 hs) + total f (drop 1 hs) ≡ total f hs
  total-parts [] = omega arith
  total-parts (h ∷ hs) = omega arith

-- a sum of smaller terms is smaller
pub total-le : (f g : SeatState → ℕ) → ((h : SeatState) → f h ≤ g h) → (hs : List SeatState)
    → total f hs ≤ total g hs
total-le f g le [] = omega arith
total-le f g le (h ∷ hs) = omega (arith, le h, total-le f g le hs)
