-- Bytes that are cut after line feeds, and what the lines of the pieces say.
use Rattle.std.proofs.Common.{◌≡◌, ℕ, zero, suc, ◌+◌, ◌<◌, Bool, true, false, eqb, List, []}
use Rattle.std.proofs.Common.{◌∷◌, ◌++◌, length, flat_map, take, drop, slice_get, Some}
use Rattle.std.proofs.Common.{refl, sym, ap, ap₂, ◌∙◌, subst, arith}
use Rattle.epx_types.proofs.Common.{map-append, get_or-drop}
use Rattle.memchr.specs.Find.{Passes, is_byte}
use Rattle.epx_lines.specs.Lines.{prepend_to_first, lines_of}
use Rattle.epx_lines.proofs.FirstLineLemmas.{lines_of-feed, lines_of-go_on}
use Rattle.epx_report.specs.declared.from_value.BaseLine.{BaseLine}
use Rattle.epx_report.specs.Bases.{Say}
use Rattle.epx_report.specs.Forms.{base_line_of}

-- ---- the lines of both parts

prepend-append : (b : ℕ) (ls more : List (List ℕ)) → 0 < length ls
    → prepend_to_first b (ls ++ more) ≡ prepend_to_first b ls ++ more
prepend-append b [] more some = absurd (omega (arith, some))
prepend-append b (l ∷ ls) more some = refl

some_first : (b : ℕ) (ls : List (List ℕ)) → 0 < length (prepend_to_first b ls)
some_first b [] = omega arith
some_first b (l ∷ ls) = omega arith

some_line : (b : ℕ) (bs : List ℕ) → 0 < length (lines_of (b ∷ bs))
some_line b bs = at (eqb b 10) refl
  where
    at : (t : Bool) → eqb b 10 ≡ t → 0 < length (lines_of (b ∷ bs))
    at true e = subst (λ ls. 0 < length ls) (sym (lines_of-feed b bs e)) (omega arith)
    at false e = subst (λ ls. 0 < length ls) (sym (lines_of-go_on b bs e))
        (some_first b (lines_of bs))

some_line_at : (bs : List ℕ) (n : ℕ) → n < length bs → 0 < length (lines_of (take (suc n) bs))
some_line_at [] n l = absurd (omega arith)
some_line_at (b ∷ bs) n l = some_line b (take n bs)

-- with one more byte in front
longer : (b : ℕ) (bs : List ℕ) (n : ℕ) → n < length bs
    → lines_of bs ≡ lines_of (take (suc n) bs) ++ lines_of (drop (suc n) bs)
    → (t : Bool) → eqb b 10 ≡ t
    → lines_of (b ∷ bs) ≡ lines_of (b ∷ take (suc n) bs) ++ lines_of (drop (suc n) bs)
longer b bs n l rest true e =
    lines_of-feed b bs e ∙ ap (λ ls. [] ∷ ls) rest
    ∙ sym (ap (λ ls. ls ++ lines_of (drop (suc n) bs)) (lines_of-feed b (take (suc n) bs) e))
longer b bs n l rest false e =
    lines_of-go_on b bs e ∙ ap (prepend_to_first b) rest
    ∙ prepend-append b (lines_of (take (suc n) bs)) (lines_of (drop (suc n) bs))
    (some_line_at bs n l)
    ∙ sym (ap (λ ls. ls ++ lines_of (drop (suc n) bs)) (lines_of-go_on b (take (suc n) bs) e))

-- a line feed is at n
lines_of-at : (bs : List ℕ) (n : ℕ) → n < length bs → Passes (is_byte 10) bs n
    → lines_of bs ≡ lines_of (take (suc n) bs) ++ lines_of (drop (suc n) bs)
lines_of-at [] n l here = absurd (omega arith)
lines_of-at (b ∷ bs) zero l here =
    lines_of-feed b bs here ∙ sym (ap (λ ls. ls ++ lines_of bs) (lines_of-feed b [] here))
lines_of-at (b ∷ bs) (suc n) l here =
    longer b bs n (omega arith) (lines_of-at bs n (omega arith) here) (eqb b 10) refl

-- a line feed is `feed` bytes after the first `size`
pub lines_of-split : (bs tail front back : List ℕ) (size feed n : ℕ) → tail ≡ drop size bs
    → size + feed < length bs → Passes (is_byte 10) tail feed → n ≡ size + feed + 1
    → front ≡ take n bs → back ≡ drop n bs → lines_of bs ≡ lines_of front ++ lines_of back
lines_of-split bs tail front back size feed n is_tail l here is_n is_front is_back =
    let there : Passes (is_byte 10) bs (size + feed) =
    ap (is_byte 10) (sym (get_or-drop size bs feed 0))
    ∙ subst (λ xs. Passes (is_byte 10) xs feed) is_tail here in
    let next : n ≡ suc (size + feed) = omega (arith, is_n) in
    lines_of-at bs (size + feed) l there
    ∙ ap₂ (λ xs ys. lines_of xs ++ lines_of ys) (sym (is_front ∙ ap (λ k. take k bs) next))
    (sym (is_back ∙ ap (λ k. drop k bs) next))

-- ---- the loop that cuts

-- ---- the loop that reads

-- ---- what the lines of all pieces say

Say-append : (ls more : List (List ℕ)) (said further : List BaseLine) → Say ls said
    → Say more further → Say (ls ++ more) (said ++ further)
Say-append ls more said further p q =
    map-append base_line_of ls more ∙ ap₂ (λ xs ys. xs ++ ys) p q
    ∙ sym (map-append Some said further)

module _ {P V : Type 0} (lines : P → List (List ℕ)) (said : V → List BaseLine) where
  pub Say-flat_map : (pieces : List P) (parts : List V) → length parts ≡ length pieces
      → ((i : ℕ) → i < length pieces → (part : V) × (slice_get parts i ≡ Some part)
      × ((piece : P) → slice_get pieces i ≡ Some piece → Say (lines piece) (said part)))
      → Say (flat_map lines pieces) (flat_map said parts)
  Say-flat_map [] [] len each = refl
  Say-flat_map [] (part ∷ parts) len each = absurd (omega (arith, len))
  Say-flat_map (piece ∷ pieces) [] len each = absurd (omega (arith, len))
  Say-flat_map (piece ∷ pieces) (part ∷ parts) len each =
      let first = each 0 (omega arith) in
      let same : first.0 ≡ part = cc (first.1) in
      Say-append (lines piece) (flat_map lines pieces) (said part) (flat_map said parts)
      (subst (λ v. Say (lines piece) (said v)) same (first.2 piece refl))
      (Say-flat_map pieces parts (omega (arith, len)) (λ i l. each (suc i) (omega arith)))
