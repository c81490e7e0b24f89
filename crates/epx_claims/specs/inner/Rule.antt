-- The rule of a table of claims, and what its steps do. A view has one seat state. It has two
-- during a split or a join, and none once its seat was joined into another: the seat is spent
-- then.
use Rattle.std.specs.Prelude.{◌≡◌, ℕ, ◌+◌, ◌-◌, ◌/◌, ◌<◌, ◌≤◌, ◌⊎◌, min, Bool, true, false, ◌||◌}
use Rattle.std.specs.Prelude.{List, [], ◌∷◌, ◌++◌, map, take, drop, length, slice_index}
use mathlib.Core.Option.{some}
use lib.ListN.{get_elem?}
use Rattle.atomic_table.specs.Table.{State, Me, Step}
use Rattle.epx_claims.specs.declared.seat_state.SeatState.{SeatState}
use Rattle.epx_claims.specs.declared.seat_state.Terms.{Terms}
use Rattle.epx_claims.specs.declared.seat_state.View.{View}
use Rattle.epx_claims.specs.between.Count.{total}
use Rattle.epx_claims.specs.between.ClaimState.{ClaimState, StateStep}

-- the state of a seat: the pieces that it has drawn, its share, and whether it has ended
abbrev pub seat_state : List ℕ → ℕ → Bool → SeatState
seat_state drawn share ended = record { drawn = drawn; share = share; ended = ended }

-- what a seat of the table holds: the terms, and these seat states
abbrev pub view : Terms → List SeatState → View
view terms seat_states = record { terms = terms; seat_states = seat_states }

-- the seat states of all views
abbrev pub all_seat_states : List View → List SeatState
all_seat_states [] = []
all_seat_states (v ∷ vs) = v.seat_states ++ all_seat_states vs

-- a view that has a seat state has these terms
abbrev pub HasTerms : Terms → View → Type 0
HasTerms terms v = (v.seat_states ≡ []) ⊎ (v.terms ≡ terms)

-- The word and the seat states are consistent. The lists together are as long as the number of
-- pieces drawn, and each view has the terms
pub record HasClaimState (terms : Terms) (state : State (Unit {0}) View) : Type 0 where
  pub one_word : length state.words ≡ 1
  pub claim_state : ClaimState terms.pieces terms.workers (slice_index state.words 0)
      (all_seat_states state.views)
  pub lengths : total (λ h. length h.drawn) (all_seat_states state.views)
      ≡ min (slice_index state.words 0) terms.pieces
  pub terms_known : (seat : ℕ) (v : View) → get_elem? state.views seat ≡ some v → HasTerms terms v

-- the first seat has every share and has drawn nothing
abbrev pub opening_view : Terms → View
opening_view terms = view terms (seat_state [] terms.workers false ∷ [])

-- a seat of the table: its view, and the slots that it has taken. Claims use no slots
abbrev pub TableSeat : Type 0
TableSeat = Me (Unit {0}) View

-- a seat state after it drew a piece
abbrev pub with_piece : ℕ → SeatState → SeatState
with_piece piece h = seat_state (h.drawn ++ piece ∷ []) h.share h.ended

-- a seat state after it ended: the pieces and the share are kept
abbrev pub at_end : SeatState → SeatState
at_end h = seat_state h.drawn h.share true

-- the first seat state is split: one part keeps the list and the larger half of the share, the
-- other has the rest
abbrev pub split_in_two : List SeatState → List SeatState
split_in_two [] = []
split_in_two (h ∷ hs) = seat_state h.drawn (h.share - h.share / 2) h.ended
    ∷ seat_state [] (h.share / 2) false ∷ hs

-- the first two seat states are joined
abbrev pub join_two : List SeatState → List SeatState
join_two [] = []
join_two (h ∷ []) = h ∷ []
join_two (h ∷ k ∷ hs) = seat_state (h.drawn ++ k.drawn) (h.share + k.share) (h.ended || k.ended)
    ∷ hs

-- a draw or a stop: the word grew by one; the number found was appended to the lists, or the seat
-- states have ended
abbrev pub IsDrawOrStop : Terms → List SeatState → ℕ → View → Type 0
IsDrawOrStop terms seat_states found after =
    StateStep terms.pieces terms.workers found (found + 1) seat_states after.seat_states
    × (found < terms.pieces → after ≡ view terms (map (with_piece found) seat_states))
    × (terms.pieces ≤ found → after ≡ view terms (map at_end seat_states))

-- the step of a table by which a seat draws a piece or stops, and keeps its slots
abbrev pub IsDrawStep : Step (Unit {0}) → TableSeat → ℕ → TableSeat → Type 0
IsDrawStep step before found after = (after.1 ≡ before.1)
    × IsDrawOrStop before.0.terms before.0.seat_states found after.0

-- a step that changes the seat states and not the word
abbrev pub IsStateMove : (List SeatState → List SeatState) → Terms → List SeatState → ℕ → View
    → Type 0
IsStateMove move terms seat_states found after =
    StateStep terms.pieces terms.workers found found seat_states after.seat_states
    × (after ≡ view terms (move seat_states))

-- the step of a table by which the one state of a seat becomes two; in a split, a new seat then
-- gets the second
abbrev pub IsSplitStep : Step (Unit {0}) → TableSeat → ℕ → TableSeat → Type 0
IsSplitStep step before found after = (after.1 ≡ before.1)
    × IsStateMove split_in_two before.0.terms before.0.seat_states found after.0

-- the step of a table by which the two states of a seat become one, at the end of a join
abbrev pub IsJoinStep : Step (Unit {0}) → TableSeat → ℕ → TableSeat → Type 0
IsJoinStep step before found after = (after.1 ≡ before.1)
    × IsStateMove join_two before.0.terms before.0.seat_states found after.0

-- after a split, the view of the old seat: the first seat state
abbrev pub first_view : View → View
first_view v = view v.terms (take 1 v.seat_states)

-- after a split, the view of the new seat: the seat states after the first
abbrev pub other_view : View → View
other_view v = view v.terms (drop 1 v.seat_states)

-- the view of a seat with which another is joined: the seat states of both
abbrev pub joined_view : View → View → View
joined_view v w = view v.terms (v.seat_states ++ w.seat_states)

-- the view of a spent seat: it has no seat state, so its terms do not matter
abbrev pub spent_view : View
spent_view = view (record { pieces = 0; workers = 0 }) []
