-- The state of the claims and its steps, as contracts see them: by the seats that take part in a
-- step. There are six kinds of step:
-- make: the word is 0, and one seat has every share and has drawn nothing;
-- draw: the word is below the number of pieces; it is appended to the seat's list, and grows by
-- one;
-- stop: the word is the number of pieces or more; it grows by one, and the seat ends;
-- split: the word stays, and two seats have the share of one;
-- join: the word stays, and one seat has the lists and the shares of two;
-- close: the only seat has every share.
use Rattle.std.specs.Prelude.{ℕ, List, map}
use Rattle.epx_claims.specs.between.ClaimState.{ClaimState, StateStep}
use Rattle.epx_claims.specs.between.Seated.{ClaimsView, SeatView, seat_state_of}

-- the word and these seats are the whole state of the claims, and it is consistent
abbrev pub IsClaimState : ClaimsView → ℕ → List SeatView → Type 0
IsClaimState claims word seats =
    ClaimState claims.pieces claims.workers word (map seat_state_of seats)

-- the word becomes the next, and the seats before become those after. All other seats stay, and
-- the state is consistent before and after
abbrev pub ClaimStep : ClaimsView → ℕ → ℕ → List SeatView → List SeatView → Type 0
ClaimStep claims word next before after =
    StateStep claims.pieces claims.workers word next (map seat_state_of before)
    (map seat_state_of after)
