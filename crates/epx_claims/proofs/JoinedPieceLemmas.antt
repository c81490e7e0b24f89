-- The results of all pieces, one after another.
use Rattle.std.proofs.Common.{◌≡◌, ◌<◌, ◌≤◌, ◌+◌, ◌∙◌, ℕ, suc, List, [], ◌∷◌, ◌++◌, length}
use Rattle.std.proofs.Common.{flat_map, drop, slice_get, Some, sym, ap, ap₂, inl, inr, arith}
use Rattle.std.proofs.Math.ListN.{drop_of_length-le}
use Rattle.epx_types.proofs.Common.{cases_lt, drop_split, piece_count, piece_start, piece_end}
use Rattle.epx_types.proofs.Common.{piece_count-above, piece_end-after_start}
use Rattle.epx_claims.specs.inner.PieceItems.{items_of_piece}

-- what is made of a list is made of its parts, one after another
module _ {X Y Z : Type 0} (cut : ℕ) (fits : 1 ≤ cut) (made : List X → List Y)
    (of_none : made [] ≡ [])
    (of_both : (front back : List X) → made (front ++ back) ≡ made front ++ made back)
    (xs : List X) (inside : Z → List Y) where
  -- the next piece begins at the end of a piece, if there is one
  drop-piece_end : (piece : ℕ) → drop (piece_end cut (length xs) piece) xs
      ≡ drop (piece_start cut (piece + 1)) xs
  drop-piece_end piece =
      elim (cases_lt (piece_start cut (piece + 1)) (length xs)) [
        | inl within ↦ ap (λ n. drop n xs) (omega arith)
        | inr past ↦ drop_of_length-le xs (omega arith) ∙ sym (drop_of_length-le xs past)
      ]

  -- a part is made of the items of its piece
  abbrev pub IsPart : ℕ → Z → Type 0
  IsPart piece part = inside part ≡ made (items_of_piece cut xs piece)

  parts_from : (piece : ℕ) (parts : List Z) → length parts + piece ≡ piece_count cut (length xs)
      → ((i : ℕ) → i < length parts → (part : Z) × (slice_get parts i ≡ Some part)
      × IsPart (piece + i) part) → flat_map inside parts ≡ made (drop (piece_start cut piece) xs)
  parts_from piece [] len each =
      sym (ap made (drop_of_length-le xs (elim (cases_lt (piece_start cut piece) (length xs)) [
        | inl within ↦ let more = piece_count-above cut (length xs) fits piece within in
            absurd (omega (arith, more, len))
        | inr past ↦ past
      ])) ∙ of_none)
  parts_from piece (part ∷ parts) len each =
      let first = each 0 (omega arith) in
      let same : first.0 ≡ part = cc (first.1) in
      let here : inside part ≡ made (items_of_piece cut xs piece) =
      ap inside (sym same) ∙ first.2 ∙ ap (λ n. made (items_of_piece cut xs n))
      (omega arith) in
      let order = piece_end-after_start cut (length xs) fits piece (omega (arith, len)) in
      let rest = parts_from (piece + 1) parts (omega (arith, len)) (λ i l.
      let next = each (suc i) (omega arith) in
      (next.0, next.1, next.2 ∙ ap (λ n. made (items_of_piece cut xs n)) (omega arith))) in
      ap₂ (λ ys zs. ys ++ zs) here (rest ∙ ap made (sym (drop-piece_end piece)))
      ∙ sym (of_both (items_of_piece cut xs piece)
      (drop (piece_end cut (length xs) piece) xs))
      ∙ ap made
      (sym (drop_split xs (piece_start cut piece) (piece_end cut (length xs) piece)
      (omega (arith, order))))

  -- the parts of all pieces one after another are made of all items
  pub flat_map-parts : (parts : List Z) → length parts ≡ piece_count cut (length xs)
      → ((i : ℕ) → i < piece_count cut (length xs) → (part : Z) × (slice_get parts i ≡ Some part)
      × IsPart i part) → flat_map inside parts ≡ made xs
  flat_map-parts parts len each =
      let begin : piece_start cut 0 ≡ 0 = omega arith in
      parts_from 0 parts (omega (arith, len)) (λ i l.
      let at = each i (omega (arith, len)) in
      (at.0, at.1, at.2 ∙ ap (λ n. made (items_of_piece cut xs n)) (omega arith)))
      ∙ ap (λ n. made (drop n xs)) begin
