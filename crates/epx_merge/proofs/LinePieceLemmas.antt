-- The pieces of consecutive lines are consecutive.
use Rattle.std.proofs.Common.{◌≡◌, ℕ, suc, ◌+◌, ◌*◌, ◌<◌, ◌≤◌, List, [], ◌∷◌, ◌++◌, length, take}
use Rattle.std.proofs.Common.{drop, slice_get, Some, sym, ap, subst, ◌∙◌, inl, inr, suc-mul, arith}
use Rattle.std.proofs.Math.ListN.{drop_of_length-le}
use Rattle.epx_types.proofs.Common.{cases_lt, take-append-drop, drop-drop, piece_count}
use Rattle.epx_types.proofs.Common.{piece_count-above}
use Rattle.epx_claims.specs.between.Answered.{AreOrderedAnswers}
use Rattle.epx_merge.specs.between.LinePieces.{ArePiecesOf, lines_of_piece}
use Rattle.epx_merge.specs.LogLines.{MeaningAt}

module _ {P : Type 0} (is : List MeaningAt → P → Type 0) (cut : ℕ) (some : 1 ≤ cut)
    (lines : List MeaningAt) where
  -- the pieces from an index on
  pieces_from : (k : ℕ) (pieces : List P) → k + length pieces ≡ piece_count cut (length lines)
      → ((i : ℕ) → i < length pieces → (x : P) × (slice_get pieces i ≡ Some x)
      × is (lines_of_piece cut (k + i) lines) x)
      → ArePiecesOf is (drop (k * cut) lines) pieces
  pieces_from k [] all each = drop_of_length-le lines (
      elim (cases_lt (k * cut) (length lines)) [
        | inl more ↦ let inside = piece_count-above cut (length lines) some k more in
            absurd (omega arith)
        | inr over ↦ over
      ]
      )
  pieces_from k (piece ∷ pieces) all each =
      let left = drop (k * cut) lines in
      let after = drop (suc k * cut) lines in
      let first = each 0 (omega arith) in
      let same : first.0 ≡ piece = (let e : Some first.0 ≡ Some piece = sym first.1 in cc) in
      let here =
      subst (λ (z : ℕ × P). is (lines_of_piece cut z.0 lines) z.1)
      (λ j. (let n : k + 0 ≡ k = omega arith in n j, same j)) first.2 in
      let more : drop cut left ≡ after = drop-drop cut (k * cut) lines ∙ ap (λ n. drop n lines)
      (let next : k * cut + cut ≡ suc k * cut = omega (arith, suc-mul k cut) in next) in
      let rest = pieces_from (suc k) pieces (omega arith)
      (λ i inside.
      let next = each (suc i) (omega arith) in (
        next.0,
        next.1,
        (let number : k + suc i ≡ suc k + i = omega arith in
            subst (λ n. is (lines_of_piece cut n lines) next.0) number next.2),
      )) in
      let whole : left ≡ take cut left ++ after =
      sym (take-append-drop cut left) ∙ ap (λ l. take cut left ++ l) more in
      (take cut left, after, whole, here, rest)

  -- the pieces, in order
  pub ArePiecesOf-in_order : (pieces : List P)
      → AreOrderedAnswers (λ i x. is (lines_of_piece cut i lines) x)
      (piece_count cut (length lines)) pieces → ArePiecesOf is lines pieces
  ArePiecesOf-in_order pieces h =
      let none : 0 * cut ≡ 0 = omega arith in
      let count : 0 + length pieces ≡ piece_count cut (length lines) =
      (let l = h.len in omega arith) in
      subst (λ n. ArePiecesOf is (drop n lines) pieces) none
      (pieces_from 0 pieces count
      (λ i inside.
      let here = h.each i (let l = h.len in omega arith) in
      let number : i ≡ 0 + i = omega arith in (
        here.0,
        here.1,
        subst (λ n. is (lines_of_piece cut n lines) here.0) number here.2,
      )))
