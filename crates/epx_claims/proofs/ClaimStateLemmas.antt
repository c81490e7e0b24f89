-- States of the claims, as lists of seat states: what each step does to them, and what follows for
-- one seat.
use Rattle.std.proofs.Common.{◌≡◌, ℕ, ◌+◌, ◌-◌, ◌/◌, ◌<◌, ◌≤◌, eqb, Bool, true, false, cond, ◌||◌}
use Rattle.std.proofs.Common.{List, [], ◌∷◌, get_or, sym, ap, ◌∙◌, arith}
use Rattle.epx_types.proofs.Common.{All}
use Rattle.epx_claims.specs.declared.seat_state.SeatState.{SeatState}
use Rattle.epx_claims.specs.between.Count.{total, one_if, occurrences, indicator_below}
use Rattle.epx_claims.specs.between.ClaimState.{ClaimState}
use Rattle.epx_claims.specs.inner.Rule.{with_piece, at_end, split_in_two, join_two}
use Rattle.epx_claims.proofs.SumLemmas.{total-le}
use Rattle.epx_claims.proofs.CountLemmas.{indicator_below-more, indicator_below-full, total-append}
use Rattle.epx_claims.proofs.CountLemmas.{occurrences-at_index, indicator_below-within_min}
use Rattle.epx_claims.proofs.CountLemmas.{indicator_below-min}
use Rattle.epx_claims.proofs.CountLemmas.{one_if-to_positive, one_if-positive}

-- if the join of two has ended, one of them has
either_ended : (a b : Bool) → one_if (a || b) ≤ one_if a + one_if b
either_ended true b = omega arith
either_ended false b = omega arith

-- the ended shares of two are at most those of their join
ended_shares-join : (a b : Bool) (x y : ℕ) → cond a x 0 + cond b y 0 ≤ cond (a || b) (x + y) 0
ended_shares-join true true x y = omega arith
ended_shares-join true false x y = omega arith
ended_shares-join false true x y = omega arith
ended_shares-join false false x y = omega arith

stops_fit : (h : SeatState) → cond h.ended h.share 0 ≤ h.share
stops_fit h = elim h.ended as (λ b. cond b h.share 0 ≤ h.share)
    [ true ↦ omega arith | false ↦ omega arith ]

module _ (n w c : ℕ) where
  -- consistency is about sums, so another list with the same sums is consistent too
  pub ClaimState-same_sums : (xs ys : List SeatState)
      → ((f : SeatState → ℕ) → total f xs ≡ total f ys)
      → ClaimState n w c xs → ClaimState n w c ys
  ClaimState-same_sums xs ys same d = record {
    each_once = λ x. sym (same (λ h. occurrences x h.drawn)) ∙ d.each_once x;
    no_empty_share = sym (same (λ h. one_if (eqb h.share 0))) ∙ d.no_empty_share;
    all_shares = sym (same (λ h. h.share)) ∙ d.all_shares;
    all_pieces_drawn = λ some_ended. let e = same (λ h. one_if h.ended) in
        d.all_pieces_drawn (omega arith);
    few_stops = let e = same (λ h. cond h.ended h.share 0) in let g = d.few_stops in omega arith;
  }

  -- a seat draws the next piece
  pub ClaimState-draw : (h : SeatState) (hs : List SeatState) → c < n → ClaimState n w c (h ∷ hs)
      → ClaimState n w (c + 1) (with_piece c h ∷ hs)
  ClaimState-draw h hs left d = record {
    each_once = λ x. let p = total-append (λ y. one_if (eqb y x)) h.drawn (c ∷ []) in
        let g = d.each_once x in let m = indicator_below-more x c n left in omega arith;
    no_empty_share = d.no_empty_share;
    all_shares = d.all_shares;
    all_pieces_drawn = λ some_ended. let g = d.all_pieces_drawn some_ended in omega arith;
    few_stops = omega arith;
  }

  -- a seat stops
  pub ClaimState-stop : (h : SeatState) (hs : List SeatState) → h.ended ≡ false → n ≤ c
      → ClaimState n w c (h ∷ hs) → ClaimState n w (c + 1) (at_end h ∷ hs)
  ClaimState-stop h hs not_ended full d = record {
    each_once = λ x.
        let g = d.each_once x in let m = indicator_below-full x c n full in omega arith;
    no_empty_share = d.no_empty_share;
    all_shares = d.all_shares;
    all_pieces_drawn = λ some_ended. omega arith;
    few_stops =
        let g = d.few_stops in
        let none_yet : cond h.ended h.share 0 ≡ 0 = ap (λ b. cond b h.share 0) not_ended in
        let y = d.no_empty_share in
        let p = one_if-to_positive h.share (omega arith) in
        omega arith;
  }

  -- a seat is split
  pub ClaimState-split : (h : SeatState) (hs : List SeatState) → h.ended ≡ false → 2 ≤ h.share
      → ClaimState n w c (h ∷ hs) → ClaimState n w c (split_in_two (h ∷ hs))
  ClaimState-split h hs not_ended enough d = record {
    each_once = λ x. let g = d.each_once x in omega arith;
    no_empty_share =
        let g = d.no_empty_share in
        let a = one_if-positive (h.share - h.share / 2) (omega arith) in
        let b = one_if-positive (h.share / 2) (omega arith) in
        omega arith;
    all_shares = let g = d.all_shares in omega arith;
    all_pieces_drawn = λ some_ended. d.all_pieces_drawn (omega arith);
    few_stops =
        let g = d.few_stops in
        let none_yet : cond h.ended h.share 0 ≡ 0 = ap (λ b. cond b h.share 0) not_ended in
        omega arith;
  }

  -- two seats are joined
  pub ClaimState-join : (h k : SeatState) (hs : List SeatState) → ClaimState n w c (h ∷ k ∷ hs)
      → ClaimState n w c (join_two (h ∷ k ∷ hs))
  ClaimState-join h k hs d = record {
    each_once = λ x. let g = d.each_once x in
        let p = total-append (λ y. one_if (eqb y x)) h.drawn k.drawn in omega arith;
    no_empty_share =
        let g = d.no_empty_share in
        let positive = one_if-to_positive h.share (omega arith) in
        let b = one_if-positive (h.share + k.share) (omega arith) in
        omega arith;
    all_shares = let g = d.all_shares in omega arith;
    all_pieces_drawn = λ some_ended. let o = either_ended h.ended k.ended in
        d.all_pieces_drawn (omega arith);
    few_stops = let g = d.few_stops in let b = ended_shares-join h.ended k.ended h.share k.share in
        omega arith;
  }

  -- what a seat has drawn is below the word
  pub All-drawn_below : (h : SeatState) (hs : List SeatState) → ClaimState n w c (h ∷ hs)
      → All (λ p. p < c) h.drawn
  All-drawn_below h hs d k d0 inside =
      let x : ℕ = get_or h.drawn k d0 in
      let t = occurrences-at_index h.drawn k d0 inside in
      let o = d.each_once x in
      indicator_below-within_min x c n (omega arith)

  -- no number is in the lists of two seats, or twice in one
  pub occurrences-apart : (h k : SeatState) (hs : List SeatState) → ClaimState n w c (h ∷ k ∷ hs)
      → (x : ℕ)
      → occurrences x h.drawn + occurrences x k.drawn ≤ indicator_below x n
  occurrences-apart h k hs d x = let e = d.each_once x in let b =
      indicator_below-min x c n in omega arith

  -- the word is at most the numbers of pieces and workers together, so it never wraps
  pub ClaimState-word_within : (hs : List SeatState) → ClaimState n w c hs → c ≤ n + w
  ClaimState-word_within hs d = let t =
      total-le (λ k. cond k.ended k.share 0) (λ k. k.share) stops_fit hs in
      let a = d.all_shares in let b = d.few_stops in omega arith
