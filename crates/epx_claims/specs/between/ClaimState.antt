-- The state of the claims: a word, which counts the draws, and the seats that are not spent. Each
-- seat has the list of pieces that it drew, a share, and a mark once it has ended.
use Rattle.std.specs.Prelude.{◌≡◌, ℕ, ◌+◌, ◌<◌, ◌≤◌, ◌==◌, ◌++◌, min, List, if◌then◌else◌}
use Rattle.epx_claims.specs.declared.seat_state.SeatState.{SeatState}
use Rattle.epx_claims.specs.between.Count.{total, count, occurrences, indicator_below}

-- the counter `word` and the seats are consistent: each piece below `word` was drawn once, by one
-- seat; shares are at least 1 and add up to `workers`; if a seat has ended, all pieces are drawn;
-- `word` exceeds `pieces` by at most the shares of the ended seats
pub record ClaimState (pieces workers word : ℕ) (seat_states : List SeatState) : Type 0 where
  -- the lists together hold each number below the word and below `pieces` once, and no other
  pub each_once : (x : ℕ) → total (λ h. occurrences x h.drawn) seat_states
      ≡ indicator_below x (min word pieces)
  -- each seat has a share of at least 1
  pub no_empty_share : count (λ h. h.share == 0) seat_states ≡ 0
  -- the shares add up to `workers`
  pub all_shares : total (λ h. h.share) seat_states ≡ workers
  -- if some seat has ended, the word is at least `pieces`
  pub all_pieces_drawn : 0 < count (λ h. h.ended) seat_states → pieces ≤ word
  -- the word is at most `pieces` plus the shares of the seats that have ended
  pub few_stops : word ≤ pieces + total (λ h. if h.ended then h.share else 0) seat_states

-- One step: the word and some seats change, while all other seats stay. The state is consistent
-- before the step and after it
pub record StateStep (pieces workers word next : ℕ)
    (mine mine_next : List SeatState) : Type 0 where
  pub others : List SeatState
  pub before : ClaimState pieces workers word (mine ++ others)
  pub after : ClaimState pieces workers next (mine_next ++ others)
