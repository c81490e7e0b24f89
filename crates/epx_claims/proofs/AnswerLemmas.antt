-- The answers of a part of the work, after one more piece and after a join.
use Rattle.std.proofs.Common.{◌≡◌, ℕ, ◌+◌, Bool, ◌||◌, true, false, List, [], ◌∷◌, ◌++◌, map, sym}
use Rattle.std.proofs.Common.{refl, ap, ◌∙◌, subst, arith}
use mathlib.Core.List.{map-append}
use Rattle.epx_types.proofs.Common.{All, All-nil, All-push, All-append}
use Rattle.epx_claims.specs.declared.work.PieceValue.{PieceValue}
use Rattle.epx_claims.specs.between.Seated.{ClaimsView, SeatView}
use Rattle.epx_claims.specs.inner.WorkResult.{HasAnswers, IsFresh, piece_of}

-- the seat after a draw
abbrev pub with_piece : SeatView → ℕ → SeatView
with_piece s p = record {
  claims = s.claims;
  drawn = s.drawn ++ p ∷ [];
  share = s.share;
  ended = s.ended;
}

-- the seat after it ended
abbrev pub at_end : SeatView → SeatView
at_end s = record { claims = s.claims; drawn = s.drawn; share = s.share; ended = true }

-- the seat after a join of two
abbrev pub both_seats : SeatView → SeatView → SeatView
both_seats s t = record {
  claims = s.claims;
  drawn = s.drawn ++ t.drawn;
  share = s.share + t.share;
  ended = s.ended || t.ended;
}

module _ {T : Type 0} (answers : ℕ → T → Type 0) (claims : ClaimsView) where
  -- at the start there are no answers
  pub HasAnswers-none : (share : ℕ) (seat : SeatView) (items : List (PieceValue T))
      → IsFresh claims share seat → items ≡ [] → HasAnswers answers claims share false seat items
  HasAnswers-none share seat items fresh none = record {
    own = fresh.own;
    share_is = fresh.share_is;
    ended_is = fresh.not_ended;
    drawn = fresh.nothing ∙ ap (map piece_of) (sym none);
    each = subst (All (λ a. answers a.piece a.value)) (sym none)
        (All-nil (λ a. answers a.piece a.value));
  }

  -- one more piece, with its answer
  pub HasAnswers-push : (share : ℕ) (ended : Bool) (seat seat' : SeatView)
      (items items' : List (PieceValue T)) (a : PieceValue T)
      → HasAnswers answers claims share ended seat items
      → seat' ≡ with_piece seat a.piece → items' ≡ items ++ a ∷ [] → answers a.piece a.value
      → HasAnswers answers claims share ended seat' items'
  HasAnswers-push share ended seat seat' items items' a has seat_is items_is good =
      subst (λ (p : SeatView × List (PieceValue T)). HasAnswers answers claims share ended p.0 p.1)
      (λ i. (sym seat_is i, sym items_is i)) (record {
        own = has.own;
        share_is = has.share_is;
        ended_is = has.ended_is;
        drawn = ap (λ d. d ++ a.piece ∷ []) has.drawn ∙ sym (map-append piece_of items (a ∷ []));
        each = All-push (λ b. answers b.piece b.value) items a has.each good;
      })

  -- no piece is left
  pub HasAnswers-at_end : (share : ℕ) (seat seat' : SeatView) (items : List (PieceValue T))
      → HasAnswers answers claims share false seat items → seat' ≡ at_end seat
      → HasAnswers answers claims share true seat' items
  HasAnswers-at_end share seat seat' items has seat_is =
      subst (λ (s : SeatView). HasAnswers answers claims share true s items) (sym seat_is)
      (record {
        own = has.own;
        share_is = has.share_is;
        ended_is = refl;
        drawn = has.drawn;
        each = has.each;
      })

  -- two seats are joined, and their answers appended
  pub HasAnswers-joined : (share one other : ℕ) (s t seat : SeatView)
      (xs ys items : List (PieceValue T))
      → HasAnswers answers claims one true s xs → HasAnswers answers claims other true t ys
      → one + other ≡ share → seat ≡ both_seats s t → items ≡ xs ++ ys
      → HasAnswers answers claims share true seat items
  HasAnswers-joined share one other s t seat xs ys items left right whole seat_is items_is =
      subst (λ (p : SeatView × List (PieceValue T)). HasAnswers answers claims share true p.0 p.1)
      (λ i. (sym seat_is i, sym items_is i)) (record {
        own = left.own;
        share_is = (let a = left.share_is in let b = right.share_is in omega arith);
        ended_is = ap (λ e. e || t.ended) left.ended_is;
        drawn = (λ i. left.drawn i ++ right.drawn i) ∙ sym (map-append piece_of xs ys);
        each = All-append (λ b. answers b.piece b.value) xs ys left.each right.each;
      })
