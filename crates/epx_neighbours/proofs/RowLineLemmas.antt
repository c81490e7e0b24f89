-- The lines of rows.
use Rattle.std.proofs.Common.{◌≡◌, ◌++◌, ◌+◌, ◌<◌, ℕ, List, [], ◌∷◌, flat_map, map, take, length}
use Rattle.std.proofs.Common.{Bor, zero, suc, get_or, refl, sym, ap, ◌∙◌, arith}
use Rattle.epx_types.proofs.Common.{flat_map_more, take_more}
use Rattle.epx_neighbours.specs.UncoveredLines.{pair_line, pairs_text}
use Rattle.epx_neighbours.specs.declared.uncovered_row.UncoveredRow.{UncoveredRow}
use Rattle.epx_neighbours.specs.inner.UncoveredRows.{pair_of}

module _ (keys : List (List ℕ)) where
  abbrev pub row_line : UncoveredRow → List ℕ
  row_line r = pair_line (pair_of keys r)

  row_lines : (rows : List UncoveredRow)
      → flat_map row_line rows ≡ flat_map pair_line (map (pair_of keys) rows)
  row_lines [] = refl
  row_lines (r ∷ rows) = ap (λ lines. row_line r ++ lines) (row_lines rows)

  -- some rows have a line each
  pub row_line-pairs_text : (rows : List UncoveredRow) → 0 < length rows
      → flat_map row_line rows ≡ pairs_text (map (pair_of keys) rows)
  row_line-pairs_text [] some = absurd (omega arith)
  row_line-pairs_text (r ∷ rows) some = row_lines (r ∷ rows)

  -- one more row
  pub row_line-step : (text : List ℕ) (rows : List UncoveredRow) (i : ℕ) (r : UncoveredRow)
      → i < length rows → r ≡ get_or rows i r
      → (text ++ flat_map row_line (take i rows)) ++ row_line r
      ≡ text ++ flat_map row_line (take (i + 1) rows)
  row_line-step text rows i r l is =
      flat_map_more row_line text (take i rows) r
      ∙ ap (λ rs. text ++ flat_map row_line rs)
      (ap (λ s. take i rows ++ s ∷ []) is ∙ sym (take_more rows i r l))

-- what a list of borrowed lists has at a position
pub now-at : {A : Type 0} (xs : List (Bor (List A))) (i : ℕ) (x : Bor (List A)) → i < length xs
    → x ≡ get_or xs i x → x.now ≡ get_or (map (λ c. c.now) xs) i []
now-at [] i x l is = absurd (omega arith)
now-at (y ∷ xs) zero x l is = ap (λ c. c.now) is
now-at (y ∷ xs) (suc i) x l is = now-at xs i x (omega arith) is
