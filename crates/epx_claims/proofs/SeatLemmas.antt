-- What a step means for a seat, by the fields of its view.
use Rattle.std.proofs.Common.{◌≡◌, ℕ, ◌+◌, ◌<◌, ◌≤◌, Bool, List, [], ◌∷◌, ◌++◌, sym, refl, ap, ◌∙◌}
use Rattle.std.proofs.Common.{subst}
use Rattle.epx_types.proofs.Common.{All}
use Rattle.epx_claims.specs.declared.claims.Claims.TheInside.{Inside as Claims}
use Rattle.epx_claims.specs.declared.seat.ClaimSeat.TheInside.{Inside as Seat}
use Rattle.epx_claims.specs.declared.seat_state.SeatState.{SeatState}
use Rattle.epx_claims.specs.inner.ClaimsFields.{claims_view}
use Rattle.epx_claims.specs.between.Count.{occurrences, indicator_below}
use Rattle.epx_claims.specs.between.ClaimState.{ClaimState, StateStep}
use Rattle.epx_claims.specs.inner.Rule.{seat_state}
use Rattle.epx_claims.specs.inner.SeatFields.{seat_view, drawn_of}
use Rattle.epx_claims.specs.between.Seated.{ClaimsView, SeatView}
use Rattle.epx_claims.proofs.ClaimStateLemmas.{occurrences-apart, All-drawn_below}

-- the seat's view names the claims of which it is a seat
pub seat_view-claims : (s : Seat) (c : Claims) (v : SeatView) (k : ClaimsView) → seat_view s ≡ v
    → v.claims ≡ k → claims_view c ≡ k → (seat_view s).claims ≡ claims_view c
seat_view-claims s c v k is own shows = ap (λ z. z.claims) is ∙ own ∙ sym shows

-- after a step of two seat states, no number is in both lists
pub occurrences-step : (pieces workers word next : ℕ) (seat_states after : List SeatState)
    (h k : SeatState) (n : ℕ) → seat_states ≡ h ∷ k ∷ [] → pieces ≡ n
    → StateStep pieces workers word next seat_states after → (x : ℕ)
    → occurrences x h.drawn + occurrences x k.drawn ≤ indicator_below x n
occurrences-step pieces workers word next seat_states after h k n is same change x =
    let with_rest =
    subst (λ (p : List SeatState × ℕ). ClaimState p.1 workers word (p.0 ++ change.others))
    (λ i. (is i, same i)) change.before in
    occurrences-apart n workers word h k change.others with_rest x

-- after a step of one seat state, what it has drawn is below the word
pub All-step_below : (pieces workers word next : ℕ) (seat_states after : List SeatState)
    (h : SeatState) → seat_states ≡ h ∷ [] → StateStep pieces workers word next seat_states after
    → All (λ p. p < word) h.drawn
All-step_below pieces workers word next seat_states after h is change =
    let with_rest =
    subst (λ (hs : List SeatState). ClaimState pieces workers word (hs ++ change.others)) is
    change.before in
    All-drawn_below pieces workers word h change.others with_rest

-- one known seat state has its own list
pub seat_state-own : (hs : List SeatState) (drawn : List ℕ) (share : ℕ) (ended : Bool)
    → hs ≡ seat_state drawn share ended ∷ [] → hs ≡ seat_state (drawn_of hs) share ended ∷ []
seat_state-own hs drawn share ended is =
    subst (λ (z : List SeatState). z ≡ seat_state (drawn_of z) share ended ∷ []) (sym is) refl

-- a step, with other names for the same numbers and seat states
pub StateStep-same : (pieces workers word next n w : ℕ)
    (before after mine mine_next : List SeatState)
    → pieces ≡ n → workers ≡ w → before ≡ mine → after ≡ mine_next
    → StateStep pieces workers word next before after → StateStep n w word next mine mine_next
StateStep-same pieces workers word next n w before after mine mine_next few many old new change =
    subst (λ (p : ℕ × ℕ × List SeatState × List SeatState). StateStep p.0 p.1 word next p.2 p.3)
    (λ i. (few i, many i, old i, new i)) change
