-- The seat that has every share has drawn all the pieces that were drawn.
use Rattle.std.proofs.Common.{◌≡◌, ℕ, eqb, min, true, List, [], ◌∷◌, ◌++◌, length, get_or, sym}
use Rattle.std.proofs.Common.{refl, ap, ◌∙◌, subst, arith}
use mathlib.Core.Option.{some, some-injective, some-ne-none}
use lib.ListN.{get_elem?}
use Rattle.atomic_table.specs.Table.{State, Final, Seen}
use Rattle.epx_claims.specs.declared.seat_state.SeatState.{SeatState}
use Rattle.epx_claims.specs.declared.seat_state.Terms.{Terms}
use Rattle.epx_claims.specs.declared.seat_state.View.{View}
use Rattle.epx_claims.specs.between.Count.{total, one_if, occurrences, indicator_below}
use Rattle.epx_claims.specs.between.ClaimState.{ClaimState}
use Rattle.epx_claims.specs.inner.Rule.{HasClaimState}
use Rattle.epx_claims.proofs.StepLemmas.{drawn_in_all, ClaimState-by_view}
use Rattle.epx_claims.proofs.CountLemmas.{one_if-to_positive}
use Rattle.epx_claims.proofs.SumLemmas.{others, total-picked}

-- seat states whose shares add up to 0 are none
no_seat_states : (hs : List SeatState) → total (λ h. h.share) hs ≡ 0
    → total (λ h. one_if (eqb h.share 0)) hs ≡ 0 → hs ≡ []
no_seat_states [] none full = refl
no_seat_states (h ∷ hs) none full = let p = one_if-to_positive h.share (omega arith) in
    absurd (omega arith)

-- what `close` returns: the length of the list, which has each number below it once; if the seat
-- has ended, the number of pieces
pub record IsAllDrawn (pieces workers answer : ℕ) (h : SeatState) : Type 0 where
  pub length : answer ≡ length h.drawn
  pub each_once : (x : ℕ) → occurrences x h.drawn ≡ indicator_below x answer
  pub all : h.ended ≡ true → answer ≡ pieces
  pub claim_state : (word : ℕ) × (answer ≡ min word pieces)
      × ClaimState pieces workers word (h ∷ [])

-- the element of a list of one
at_zero : (xs : List ℕ) (x : ℕ) → get_elem? xs 0 ≡ some x → get_or xs 0 0 ≡ x
at_zero [] x e = absurd (some-ne-none x (sym e))
at_zero (y ∷ ys) x e = some-injective y x e

drawn_at_end : (terms : Terms) (id word : ℕ) (v : View) (h : SeatState) (ws : List ℕ)
    (xs : List (Unit {0})) → v.seat_states ≡ h ∷ [] → h.share ≡ terms.workers
    → get_elem? ws 0 ≡ some word
    → Final (Seen (HasClaimState terms) id v) ws xs
    → IsAllDrawn terms.pieces terms.workers (min word terms.pieces) h
drawn_at_end terms id word v h ws xs is every found final =
    let s : State (Unit {0}) View = final.0 in
    let r : HasClaimState terms s = final.1.0 in
    let c : get_or s.words 0 0 ≡ word = ap (λ (z : List ℕ). get_or z 0 0) final.2
    ∙ at_zero ws word found in
    let hs : List SeatState = others s.views id in
    let with_rest : ClaimState terms.pieces terms.workers word (h ∷ hs) =
    subst (λ (p : ℕ × List SeatState). ClaimState terms.pieces terms.workers p.0 (p.1 ++ hs))
    (λ i. (c i, is i)) (ClaimState-by_view terms (get_or s.words 0 0) s.views id v final.1.1
    r.claim_state) in
    let shares = with_rest.all_shares in
    let full = with_rest.no_empty_share in
    let alone : hs ≡ [] = no_seat_states hs (omega arith) (omega arith) in
    let d : ClaimState terms.pieces terms.workers word (h ∷ []) =
    subst (λ (z : List SeatState). ClaimState terms.pieces terms.workers word (h ∷ z)) alone
    with_rest in
    record {
      length =
          let a = total-picked (λ k. length k.drawn) s.views id v final.1.1 in
          let b : drawn_in_all v.seat_states ≡ drawn_in_all (h ∷ []) = ap drawn_in_all is in
          let e : drawn_in_all hs ≡ 0 = ap drawn_in_all alone in
          let l = r.lengths in
          omega arith;
      each_once = λ x. let e = d.each_once x in omega arith;
      all = λ ended. let one : one_if h.ended ≡ 1 = ap one_if ended in
          let g = d.all_pieces_drawn (omega arith) in omega arith;
      claim_state = (word, refl, d);
    }

-- a seat that has every share when the table is closed has drawn all the pieces that were drawn;
-- `pieces` and `answer` are variables with equations, so that they fit the fields of the claims
pub IsAllDrawn-at_close : (terms : Terms) (id word pieces answer : ℕ) (v : View) (h : SeatState)
    (ws : List ℕ) (xs : List (Unit {0})) → v.seat_states ≡ h ∷ [] → h.share ≡ terms.workers
    → get_elem? ws 0 ≡ some word
    → terms.pieces ≡ pieces → answer ≡ min word pieces
    → Final (Seen (HasClaimState terms) id v) ws xs → IsAllDrawn pieces terms.workers answer h
IsAllDrawn-at_close terms id word pieces answer v h ws xs is every found same answer_is final =
    let all = drawn_at_end terms id word v h ws xs is every found final in
    let same_answer : min word terms.pieces ≡ answer = ap (min word) same ∙ sym answer_is in
    subst (λ (p : ℕ × ℕ). IsAllDrawn p.0 terms.workers p.1 h) (λ i. (same i, same_answer i)) all
