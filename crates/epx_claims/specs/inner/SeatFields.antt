-- What contracts see of a seat, and the invariant of its fields.
use Rattle.std.specs.Prelude.{◌≡◌, ℕ, List, [], ◌∷◌}
use Rattle.epx_claims.specs.declared.seat_state.SeatState.{SeatState}
use Rattle.epx_claims.specs.declared.seat.ClaimSeat.TheInside.{Inside}
use Rattle.epx_claims.specs.inner.Rule.{seat_state}
use Rattle.epx_claims.specs.between.Seated.{SeatView}

-- what the first seat state has drawn
abbrev pub drawn_of : List SeatState → List ℕ
drawn_of [] = []
drawn_of (h ∷ hs) = h.drawn

-- the fields of a seat as contracts see them; which claims it is of, and what it has drawn, is in
-- the seat of the table
abbrev pub seat_view : Inside → SeatView
seat_view s = record {
  claims = record {
    table = s.seat.table_id;
    pieces = s.seat.me.0.terms.pieces;
    workers = s.seat.me.0.terms.workers;
  };
  drawn = drawn_of s.seat.me.0.seat_states;
  share = s.share;
  ended = s.ended;
}

-- the seat has one seat state and holds no slot; its share and mark are those of the state
pub record IsClaimSeat (s : Inside) : Type 0 where
  pub shown : s.seat.me.0.seat_states ≡ seat_state (drawn_of s.seat.me.0.seat_states) s.share
      s.ended ∷ []
  pub no_slot : s.seat.me.1 ≡ []
