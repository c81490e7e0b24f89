-- A draw or a stop keeps the state consistent.
use Rattle.std.proofs.Common.{◌≡◌, ℕ, ◌+◌, ◌%◌, ◌^◌, ◌<◌, ◌≤◌, min, false, List, [], ◌∷◌, ◌++◌}
use Rattle.std.proofs.Common.{length-append, get_or, sym, refl, ap, subst, ⊎_elim, arith}
use Rattle.epx_types.proofs.Common.{cases_lt}
use mathlib.Core.Option.{none}
use Rattle.atomic_table.specs.Table.{step, keeps, Allows}
use Rattle.epx_claims.specs.declared.seat_state.SeatState.{SeatState}
use Rattle.epx_claims.specs.declared.seat_state.Terms.{Terms}
use Rattle.epx_claims.specs.declared.seat_state.View.{View}
use Rattle.epx_claims.specs.between.ClaimState.{ClaimState}
use Rattle.epx_claims.specs.inner.Rule.{TableSeat, view, with_piece, at_end, HasClaimState}
use Rattle.epx_claims.specs.inner.Rule.{IsDrawOrStop, IsDrawStep}
use Rattle.epx_claims.proofs.ClaimStateLemmas.{ClaimState-draw, ClaimState-stop}
use Rattle.epx_claims.proofs.ClaimStateLemmas.{ClaimState-word_within}
use Rattle.epx_claims.proofs.StepLemmas.{drawn_in_all, terms-with_seat_state, ClaimState-by_view}
use Rattle.epx_claims.proofs.StepLemmas.{HasClaimState-after}
use Rattle.epx_claims.proofs.SumLemmas.{others}

-- a seat that has not ended may draw
pub Allows-draw : (terms : Terms) (few_pieces : terms.pieces ≤ 2 ^ 40)
    (few_workers : terms.workers ≤ 64) (slots id : ℕ) (me : TableSeat) (h : SeatState)
    → me.0.seat_states ≡ h ∷ [] → h.ended ≡ false
    → Allows (HasClaimState terms) slots id me 0 (λ k. (k + 1) % 2 ^ 64)
    (IsDrawStep (step slots 0 1 0 none) me)
Allows-draw terms few_pieces few_workers slots id me h is not_ended s r wide at small =
    let c : ℕ = get_or s.words 0 0 in
    let n : ℕ = terms.pieces in
    let v : View = me.0 in
    let hs : List SeatState = others s.views id in
    let same : v.terms ≡ terms = terms-with_seat_state terms v h [] is (r.terms_known id v at) in
    let before : ClaimState n terms.workers c (h ∷ hs) =
    subst (λ (z : List SeatState). ClaimState n terms.workers c (z ++ hs)) is
    (ClaimState-by_view terms c s.views id v at r.claim_state) in
    let fits = ClaimState-word_within n terms.workers c (h ∷ hs) before in
    let whole : (c + 1) % 2 ^ 64 ≡ c + 1 = omega arith in
    let long : drawn_in_all v.seat_states ≡ drawn_in_all (h ∷ []) = ap drawn_in_all is in
    let back : (λ (p : Terms × List SeatState). p) (v.terms, v.seat_states) ≡ (terms, h ∷ []) =
    (λ i. (same i, is i)) in
    ⊎_elim
    (λ (left : c < n).
    let w : View = view terms (with_piece c h ∷ []) in
    let after = ClaimState-draw n terms.workers c h hs left before in
    let longer : drawn_in_all w.seat_states + min c n ≡ drawn_in_all v.seat_states
    + min (c + 1) n = (let a = length-append h.drawn (c ∷ []) in omega arith) in (
      w,
      keeps,
      tt,
      rw whole (HasClaimState-after terms s r id v w (c + 1) me.1 at refl after longer),
      (
        refl,
        subst (λ (p : Terms × List SeatState). IsDrawOrStop p.0 p.1 c w) (sym back) (
          record { others = hs; before = before; after = after },
          (λ _. refl),
          (λ full. absurd (omega arith)),
        ),
      ),
    ))
    (λ (full : n ≤ c).
    let w : View = view terms (at_end h ∷ []) in
    let after = ClaimState-stop n terms.workers c h hs not_ended full before in
    let longer : drawn_in_all w.seat_states + min c n
    ≡ drawn_in_all v.seat_states + min (c + 1) n = omega arith in (
      w,
      keeps,
      tt,
      rw whole (HasClaimState-after terms s r id v w (c + 1) me.1 at refl after longer),
      (
        refl,
        subst (λ (p : Terms × List SeatState). IsDrawOrStop p.0 p.1 c w) (sym back) (
          record { others = hs; before = before; after = after },
          (λ left. absurd (omega arith)),
          (λ _. refl),
        ),
      ),
    ))
    (cases_lt c n)
