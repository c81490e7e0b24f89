-- A seat state moves from one seat to another, and the state of the claims stays consistent.
use Rattle.std.proofs.Common.{◌≡◌, ⊎_elim, inl, inr, ℕ, List, [], ◌∷◌, ◌++◌, length, set, take}
use Rattle.std.proofs.Common.{drop, sym, refl, ap, ◌∙◌, subst, arith}
use mathlib.Core.Option.{some}
use lib.ListN.{get_elem?}
use Rattle.atomic_table.specs.Table.{Splits, Joins}
use Rattle.atomic_table.proofs.Lists.{at_snoc}
use Rattle.epx_claims.specs.declared.seat_state.SeatState.{SeatState}
use Rattle.epx_claims.specs.declared.seat_state.Terms.{Terms}
use Rattle.epx_claims.specs.declared.seat_state.View.{View}
use Rattle.epx_claims.specs.between.Count.{total}
use Rattle.epx_claims.specs.inner.Rule.{HasTerms, all_seat_states, first_view, other_view}
use Rattle.epx_claims.specs.inner.Rule.{joined_view, spent_view, HasClaimState}
use Rattle.epx_claims.proofs.ClaimStateLemmas.{ClaimState-same_sums}
use Rattle.epx_claims.proofs.StepLemmas.{terms-with_seat_state, HasTerms-set}
use Rattle.epx_claims.proofs.CountLemmas.{total-append}
use Rattle.epx_claims.proofs.SumLemmas.{total-set, total-picked, total-push, total-parts}

-- the sums stay when a view is split
split_sum : (f : SeatState → ℕ) (vs : List View) (id : ℕ) (v : View) → get_elem? vs id ≡ some v
    → total f (all_seat_states vs) ≡ total f
    (all_seat_states (set vs id (first_view v) ++ other_view v ∷ []))
split_sum f vs id v at =
    let a = total-picked f vs id v at in
    let b = total-set f vs id v (first_view v) at in
    let c = total-push f (set vs id (first_view v)) (other_view v) in
    let d = total-parts f v.seat_states in
    omega arith

-- the sums stay when a view gets the seat states of another
join_sum : (f : SeatState → ℕ) (vs : List View) (id other : ℕ) (v w : View)
    → get_elem? vs id ≡ some v → get_elem? (set vs id (joined_view v w)) other ≡ some w
    → total f (all_seat_states vs) ≡ total f
    (all_seat_states (set (set vs id (joined_view v w)) other spent_view))
join_sum f vs id other v w at there =
    let a = total-picked f vs id v at in
    let b = total-set f vs id v (joined_view v w) at in
    let c = total-picked f (set vs id (joined_view v w)) other w there in
    let d = total-append f v.seat_states w.seat_states in
    omega arith

module _ (terms : Terms) where
  -- a seat may pass its second seat state to a new seat
  pub Splits-seat : (id : ℕ) (v : View)
      → Splits (HasClaimState terms) id v (first_view v) (other_view v)
  Splits-seat id v s r at =
      let same = (λ (f : SeatState → ℕ). split_sum f s.views id v at) in
      let knows = r.terms_known id v at in
      let first : HasTerms terms (first_view v) =
      ⊎_elim (λ none. inl (ap (take 1) none)) (λ same. inr same) knows in
      let second : HasTerms terms (other_view v) =
      ⊎_elim (λ none. inl (ap (drop 1) none)) (λ same. inr same) knows in
      record {
        one_word = r.one_word;
        claim_state = ClaimState-same_sums _ _ _ _ _ same r.claim_state;
        lengths = sym (same (λ h. length h.drawn)) ∙ r.lengths;
        terms_known = λ j u found. ⊎_elim
            (HasTerms-set terms s.views id (first_view v) r.terms_known first j u)
            (λ is. subst (HasTerms terms) is second)
            (at_snoc (set s.views id (first_view v)) (other_view v) u j found);
      }

  -- a seat may get the seat states of another
  pub Joins-seat : (id other : ℕ) (v w : View) (h : SeatState) → v.seat_states ≡ h ∷ []
      → Joins (HasClaimState terms) id v other w (joined_view v w) spent_view
  Joins-seat id other v w h is s r at apart there =
      let same = (λ (f : SeatState → ℕ). join_sum f s.views id other v w at there) in
      let knows : HasTerms terms (joined_view v w) =
      inr (terms-with_seat_state terms v h [] is (r.terms_known id v at)) in
      record {
        one_word = r.one_word;
        claim_state = ClaimState-same_sums _ _ _ _ _ same r.claim_state;
        lengths = sym (same (λ h. length h.drawn)) ∙ r.lengths;
        terms_known = HasTerms-set terms (set s.views id (joined_view v w)) other spent_view
            (HasTerms-set terms s.views id (joined_view v w) r.terms_known knows) (inl refl);
      }
