-- The pieces follow each other and cover all items. Each has at least one item and at most `cut`.
use Rattle.std.proofs.Common.{◌≡◌, ◌<◌, ◌≤◌, ◌+◌, ◌-◌, ◌*◌, ◌/◌, ℕ, suc, inl, inr, arith, add-mul}
use Rattle.std.proofs.Common.{one-mul, suc-mul, le-div_iff_mul-le, div-mul-le_self}
use Rattle.std.proofs.Math.Nat.{lt-div-mul-add}
use Rattle.std.proofs.lemmas.Bool.{cases_lt}
use Rattle.std.proofs.lemmas.Grind.{common_steps}
use Rattle.epx_types.specs.Pieces.{piece_count, piece_start, piece_end}

module _ (cut items : ℕ) (fits : 1 ≤ cut) where
  -- division that rounds up
  piece_count-is : piece_count cut items ≡ (items + (cut - 1)) / cut
  piece_count-is = grind (arith, common_steps)

  -- a number is that of a piece exactly if the start of the piece is within the items
  pub piece_start-within : (piece : ℕ) → piece < piece_count cut items
      → piece_start cut piece < items
  piece_start-within piece l =
      let next = (le-div_iff_mul-le {k = cut} {x = suc piece} {y = items + (cut - 1)} fits).0
      (rw piece_count-is at l) in
      omega (arith, suc-mul piece cut)

  -- the converse
  pub piece_count-above : (piece : ℕ) → piece_start cut piece < items
      → piece < piece_count cut items
  piece_count-above piece l =
      let next : suc piece * cut ≤ items + (cut - 1) = omega (arith, suc-mul piece cut) in
      rw piece_count-is
      ((le-div_iff_mul-le {k = cut} {x = suc piece} {y = items + (cut - 1)} fits).1 next)

  next_start : (piece : ℕ) → (piece + 1) * cut ≡ piece * cut + cut
  next_start piece = omega (arith, add-mul piece 1 cut, one-mul cut)

  -- a piece ends where the next begins
  pub piece_end-next : (piece : ℕ) → piece + 1 < piece_count cut items
      → piece_end cut items piece ≡ piece_start cut (piece + 1)
  piece_end-next piece l = let start = piece_start-within (piece + 1) l in omega arith

  -- the last piece ends with the items
  pub piece_end-last : (piece : ℕ) → piece + 1 ≡ piece_count cut items
      → piece_end cut items piece ≡ items
  piece_end-last piece e =
      elim (cases_lt (piece_start cut (piece + 1)) items) [
        | inl l ↦ let more = piece_count-above (piece + 1) l in absurd (omega arith)
        | inr past ↦ omega arith
      ]

  -- a piece is not empty
  pub piece_end-after_start : (piece : ℕ) → piece < piece_count cut items
      → piece_start cut piece < piece_end cut items piece
  piece_end-after_start piece l = let start = piece_start-within piece l in
      omega (arith, next_start piece)

  -- a piece has at most `cut` items
  pub piece_end-within_cut : (piece : ℕ) → piece_end cut items piece ≤ piece_start cut piece + cut
  piece_end-within_cut piece = omega (arith, next_start piece)

  -- the piece of an item
  pub piece_start-for_item : (item : ℕ) → item < items → (piece : ℕ)
      × (piece < piece_count cut items)
      × (piece_start cut piece ≤ item) × (item < piece_end cut items piece)
  piece_start-for_item item l =
      let piece = item / cut in
      let from : piece * cut ≤ item = div-mul-le_self item cut in
      let upto : item < piece * cut + cut = lt-div-mul-add {a = item} {b = cut} fits in
      (piece, piece_count-above piece (omega arith), from, omega (arith, next_start piece))
