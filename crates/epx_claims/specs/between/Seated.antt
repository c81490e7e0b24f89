-- What contracts see of a table of claims and of a seat.
use Rattle.std.specs.Prelude.{◌≡◌, ℕ, Bool, false, List, []}
use Rattle.atomic_table.specs.Seated.{TableId}
use Rattle.epx_claims.specs.declared.seat_state.SeatState.{SeatState}

-- claims as contracts see them: which table they are, and the numbers of pieces and of workers
pub record ClaimsView : Type 0 where
  pub table : TableId
  pub pieces : ℕ
  pub workers : ℕ

-- a seat as contracts see it: its claims, the pieces that it has drawn, in order, how many workers
-- it counts for, and whether it has ended
pub record SeatView : Type 0 where
  pub claims : ClaimsView
  pub drawn : List ℕ
  pub share : ℕ
  pub ended : Bool

-- the seat belongs to these claims
abbrev pub IsSeatOf : ClaimsView → SeatView → Type 0
IsSeatOf claims seat = seat.claims ≡ claims

-- a seat of these claims with this share, which has drawn nothing and has not ended
abbrev pub fresh_seat : ClaimsView → ℕ → SeatView
fresh_seat claims share = record { claims = claims; drawn = []; share = share; ended = false }

-- the seat without its claims: the pieces that it has drawn, its share, and whether it has ended
abbrev pub seat_state_of : SeatView → SeatState
seat_state_of seat = record { drawn = seat.drawn; share = seat.share; ended = seat.ended }
