-- The lines of the rest of a log follow its first lines.
use Rattle.std.proofs.Common.{◌≡◌, ◌+◌, ◌∷◌, ◌++◌, ◌∙◌, ℕ, suc, List, [], length, ap, refl, sym}
use Rattle.std.proofs.Common.{inl, inr, arith, eqb}
use Rattle.epx_types.proofs.Common.{cases_Bool}
use Rattle.epx_lines.specs.Lines.{lines_of, prepend_to_first}
use Rattle.epx_lines.proofs.FirstLineLemmas.{lines_of-feed, lines_of-go_on}
use Rattle.epx_merge.specs.LogLines.{meaning_at, meanings_in}
use Rattle.epx_merge.specs.LogParts.{EndsLine}

-- bytes with a line feed have a line
some_line : (front : List ℕ) → (l : List ℕ) × (ls : List (List ℕ))
    × (lines_of (front ++ 10 ∷ []) ≡ l ∷ ls)
some_line [] = ([], [], refl)
some_line (b ∷ front) = elim (cases_Bool (eqb b 10)) [
  | inl feed ↦ ([], lines_of (front ++ 10 ∷ []), lines_of-feed b (front ++ 10 ∷ []) feed)
  | inr other ↦
      let h = some_line front in
      (b ∷ h.0, h.1, lines_of-go_on b (front ++ 10 ∷ []) other ∙ ap (prepend_to_first b) h.2)
]

lines_after : (front rest : List ℕ)
    → lines_of ((front ++ 10 ∷ []) ++ rest) ≡ lines_of (front ++ 10 ∷ []) ++ lines_of rest
lines_after [] rest = refl
lines_after (b ∷ front) rest =
    let bytes = front ++ 10 ∷ [] in
    let here = lines_after front rest in
    let h = some_line front in
    elim (cases_Bool (eqb b 10)) [
      | inl feed ↦ lines_of-feed b (bytes ++ rest) feed ∙ ap (λ l. [] ∷ l) here
          ∙ ap (λ l. l ++ lines_of rest) (sym (lines_of-feed b bytes feed))
      | inr other ↦ lines_of-go_on b (bytes ++ rest) other
          ∙ ap (prepend_to_first b) (here ∙ ap (λ l. l ++ lines_of rest) h.2)
          ∙ ap (λ l. l ++ lines_of rest)
          (sym (lines_of-go_on b bytes other ∙ ap (prepend_to_first b) h.2))
    ]

pub lines_of-append : (lines rest : List ℕ) → EndsLine lines
    → lines_of (lines ++ rest) ≡ lines_of lines ++ lines_of rest
lines_of-append lines rest (inl none) = rw none refl
lines_of-append lines rest (inr (front, is)) = rw is (lines_after front rest)

pub meanings_in-append : (log n : ℕ) (xs ys : List (List ℕ))
    → meanings_in log n (xs ++ ys) ≡ meanings_in log n xs ++ meanings_in log (n + length xs) ys
meanings_in-append log n [] ys = let same : n ≡ n + 0 = omega arith in
    ap (λ k. meanings_in log k ys) same
meanings_in-append log n (x ∷ xs) ys =
    let same : suc n + length xs ≡ n + suc (length xs) = omega arith in
    let here = meaning_at (record { log = log; line = n }) x in
    ap (λ l. here ∷ l) (meanings_in-append log (suc n) xs ys
    ∙ ap (λ k. meanings_in log (suc n) xs ++ meanings_in log k ys) same)
