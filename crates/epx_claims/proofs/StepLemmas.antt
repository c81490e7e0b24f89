-- What a step must show: the rule holds again after the word and one view change. Then the steps
-- that change the seat states and not the word.
use Rattle.std.proofs.Common.{◌≡◌, ⊎_elim, inr, ℕ, ◌+◌, ◌≤◌, min, false, List, [], ◌∷◌, ◌++◌}
use Rattle.std.proofs.Common.{length, length-append, length-set, set, get_or, get_or-set_same, sym}
use Rattle.std.proofs.Common.{refl, ap, ◌∙◌, subst, arith}
use mathlib.Core.Option.{some, none}
use lib.ListN.{get_elem?}
use Rattle.atomic_table.specs.Table.{State, step, keeps, stepped, Allows}
use Rattle.atomic_table.proofs.Lists.{at_set}
use Rattle.epx_claims.specs.declared.seat_state.SeatState.{SeatState}
use Rattle.epx_claims.specs.declared.seat_state.Terms.{Terms}
use Rattle.epx_claims.specs.declared.seat_state.View.{View}
use Rattle.epx_claims.specs.between.Count.{total}
use Rattle.epx_claims.specs.between.ClaimState.{ClaimState, StateStep}
use Rattle.epx_claims.specs.inner.Rule.{TableSeat, HasTerms, view, all_seat_states, split_in_two}
use Rattle.epx_claims.specs.inner.Rule.{join_two, HasClaimState, IsStateMove, IsSplitStep}
use Rattle.epx_claims.specs.inner.Rule.{IsJoinStep}
use Rattle.epx_claims.proofs.ClaimStateLemmas.{ClaimState-same_sums, ClaimState-split}
use Rattle.epx_claims.proofs.ClaimStateLemmas.{ClaimState-join}
use Rattle.epx_claims.proofs.CountLemmas.{total-append}
use Rattle.epx_claims.proofs.SumLemmas.{others, total-set, total-picked}

abbrev pub drawn_in_all : List SeatState → ℕ
drawn_in_all hs = total (λ h. length h.drawn) hs

module _ (terms : Terms) where
  -- a view with a seat state has the terms
  pub terms-with_seat_state : (v : View) (h : SeatState) (hs : List SeatState)
      → v.seat_states ≡ h ∷ hs
      → HasTerms terms v → v.terms ≡ terms
  terms-with_seat_state v h hs is knows =
      ⊎_elim (λ none. let e : length (h ∷ hs) ≡ 0 = ap length (sym is ∙ none) in
      absurd (omega arith)) (λ same. same) knows

  -- the views have the terms after one was written
  pub HasTerms-set : (vs : List View) (id : ℕ) (w : View)
      → ((j : ℕ) (v : View) → get_elem? vs j ≡ some v → HasTerms terms v) → HasTerms terms w
      → (j : ℕ) (v : View) → get_elem? (set vs id w) j ≡ some v → HasTerms terms v
  HasTerms-set vs id w terms_known new j v at =
      ⊎_elim (λ here. subst (HasTerms terms) here.1 new) (λ there. terms_known j v there.1)
      (at_set vs id j w v at)

  -- one view's seat states, followed by those of all other views
  pub ClaimState-by_view : (c : ℕ) (vs : List View) (id : ℕ) (v : View) → get_elem? vs id ≡ some v
      → ClaimState terms.pieces terms.workers c (all_seat_states vs)
      → ClaimState terms.pieces terms.workers c (v.seat_states ++ others vs id)
  ClaimState-by_view c vs id v at d =
      ClaimState-same_sums _ _ _ (all_seat_states vs) (v.seat_states ++ others vs id)
      (λ f. total-picked f vs id v at ∙ sym (total-append f v.seat_states (others vs id))) d

  pub HasClaimState-after : (s : State (Unit {0}) View) (r : HasClaimState terms s) (id : ℕ)
      (v w : View)
      (next : ℕ) (carried : List (ℕ × Unit {0})) → get_elem? s.views id ≡ some v → w.terms ≡ terms
      → ClaimState terms.pieces terms.workers next (w.seat_states ++ others s.views id)
      → drawn_in_all w.seat_states + min (get_or s.words 0 0) terms.pieces
      ≡ drawn_in_all v.seat_states + min next terms.pieces
      → HasClaimState terms (stepped s 0 next id carried w keeps)
  HasClaimState-after s r id v w next carried at knows claim_state longer =
      let one = r.one_word in
      let found : get_or (set s.words 0 next) 0 0 ≡ next =
      get_or-set_same s.words 0 next 0 (omega arith) in
      let placed = ClaimState-same_sums _ _ _ (w.seat_states ++ others s.views id)
      (all_seat_states (set s.views id w))
      (λ f. total-append f w.seat_states (others s.views id)
      ∙ sym (total-set f s.views id v w at)) claim_state in
      record {
        one_word = length-set s.words 0 next ∙ r.one_word;
        claim_state = rw found placed;
        lengths =
            let a = total-picked (λ h. length h.drawn) s.views id v at in
            let b = total-set (λ h. length h.drawn) s.views id v w at in
            let l = r.lengths in
            rw found (omega arith);
        terms_known = HasTerms-set s.views id w r.terms_known (inr knows);
      }

  -- a seat state may be split
  pub Allows-split : (slots id : ℕ) (me : TableSeat) (h : SeatState) → me.0.seat_states ≡ h ∷ []
      → h.ended ≡ false → 2 ≤ h.share → Allows (HasClaimState terms) slots id me 0 (λ n. n)
      (IsSplitStep (step slots 0 0 0 none) me)
  Allows-split slots id me h is not_ended enough s r wide at small =
      let c : ℕ = get_or s.words 0 0 in
      let v : View = me.0 in
      let same : v.terms ≡ terms = terms-with_seat_state v h [] is (r.terms_known id v at) in
      let before : ClaimState terms.pieces terms.workers c (h ∷ others s.views id) =
      subst (λ (hs : List SeatState). ClaimState terms.pieces terms.workers c
      (hs ++ others s.views id)) is (ClaimState-by_view c s.views id v at r.claim_state) in
      let after = ClaimState-split _ _ _ h (others s.views id) not_ended enough before in
      let w : View = view terms (split_in_two (h ∷ [])) in
      let lengths : drawn_in_all w.seat_states + min c terms.pieces
      ≡ drawn_in_all v.seat_states + min c terms.pieces =
      (let e : drawn_in_all v.seat_states ≡ drawn_in_all (h ∷ []) = ap drawn_in_all is in
      omega arith) in
      let change : StateStep terms.pieces terms.workers c c (h ∷ []) w.seat_states =
      record { others = others s.views id; before = before; after = after } in (
        w,
        keeps,
        tt,
        HasClaimState-after s r id v w c me.1 at refl after lengths,
        (
          refl,
          subst (λ (p : Terms × List SeatState). IsStateMove split_in_two p.0 p.1 c w)
              (λ i. (sym same i, sym is i)) (change, refl),
        ),
      )

  -- two seat states may be joined
  pub Allows-join : (slots id : ℕ) (me : TableSeat) (h k : SeatState)
      → me.0.seat_states ≡ h ∷ k ∷ []
      → Allows (HasClaimState terms) slots id me 0 (λ n. n) (IsJoinStep (step slots 0 0 0 none) me)
  Allows-join slots id me h k is s r wide at small =
      let c : ℕ = get_or s.words 0 0 in
      let v : View = me.0 in
      let same : v.terms ≡ terms = terms-with_seat_state v h (k ∷ []) is (r.terms_known id v at) in
      let before : ClaimState terms.pieces terms.workers c (h ∷ k ∷ others s.views id) =
      subst (λ (hs : List SeatState). ClaimState terms.pieces terms.workers c
      (hs ++ others s.views id)) is (ClaimState-by_view c s.views id v at r.claim_state) in
      let after = ClaimState-join _ _ _ h k (others s.views id) before in
      let w : View = view terms (join_two (h ∷ k ∷ [])) in
      let lengths : drawn_in_all w.seat_states + min c terms.pieces
      ≡ drawn_in_all v.seat_states + min c terms.pieces = (
      let e : drawn_in_all v.seat_states ≡ drawn_in_all (h ∷ k ∷ []) = ap drawn_in_all is in
      let a = length-append h.drawn k.drawn in
      omega arith) in
      let change : StateStep terms.pieces terms.workers c c (h ∷ k ∷ []) w.seat_states =
      record { others = others s.views id; before = before; after = after } in (
        w,
        keeps,
        tt,
        HasClaimState-after s r id v w c me.1 at refl after lengths,
        (
          refl,
          subst (λ (p : Terms × List SeatState). IsStateMove join_two p.0 p.1 c w)
              (λ i. (sym same i, sym is i)) (change, refl),
        ),
      )
