-- The first line of bytes, and the lines of the rest.
use Rattle.epx_types.proofs.Common.{common_steps, map-append, take-length}
use Rattle.std.proofs.Common.{Bor, map, append_assoc, append-nil, ◌≡◌, ℕ, zero, suc, ◌-◌, ◌<◌, Bool}
use Rattle.std.proofs.Common.{true, false, cond, eqb, List, [], ◌∷◌, ◌++◌, length, take, drop, refl}
use Rattle.std.proofs.Common.{sym, ap, ◌∙◌, arith}
use Rattle.std.proofs.Math.Seq.{drop-length}
use Rattle.memchr.specs.Find.{Nowhere, Passes, is_byte}
use Rattle.epx_lines.specs.Lines.{prepend_to_first, lines_of}

-- ---- the first line

pub lines_of-go_on : (b : ℕ) (bs : List ℕ) → eqb b 10 ≡ false
    → lines_of (b ∷ bs) ≡ prepend_to_first b (lines_of bs)
lines_of-go_on b bs e = ap (λ t. cond t ([] ∷ lines_of bs) (prepend_to_first b (lines_of bs))) e

pub lines_of-feed : (b : ℕ) (bs : List ℕ) → eqb b 10 ≡ true → lines_of (b ∷ bs) ≡ [] ∷ lines_of bs
lines_of-feed b bs e = ap (λ t. cond t ([] ∷ lines_of bs) (prepend_to_first b (lines_of bs))) e

is_false : (t : Bool) → (t ≡ true → ⊥) → t ≡ false
is_false true h = absurd (h refl)
is_false false h = refl

-- the bytes up to the first line feed are the first line
pub lines_of-first : (bs : List ℕ) (k : ℕ) → k < length bs → Nowhere (Passes (is_byte 10) bs) 0 k
    → Passes (is_byte 10) bs k → lines_of bs ≡ take k bs ∷ lines_of (drop 1 (drop k bs))
lines_of-first [] k l before here = absurd (omega arith)
lines_of-first (b ∷ bs) zero l before here = lines_of-feed b bs here
lines_of-first (b ∷ bs) (suc k) l before here =
    lines_of-go_on b bs (is_false _ (before 0 (omega arith) (omega arith)))
    ∙ ap (prepend_to_first b)
    (lines_of-first bs k (omega arith)
    (λ j low high. before (suc j) (omega arith) (omega arith)) here)

-- nonempty bytes without a line feed are one line
pub lines_of-last : (bs : List ℕ) → 0 < length bs → Nowhere (Passes (is_byte 10) bs) 0 (length bs)
    → lines_of bs ≡ bs ∷ []
lines_of-last [] l none = absurd (omega arith)
lines_of-last (b ∷ []) l none =
    lines_of-go_on b [] (is_false _ (none 0 (omega arith) (omega arith)))
lines_of-last (b ∷ c ∷ bs) l none =
    lines_of-go_on b (c ∷ bs) (is_false _ (none 0 (omega arith) (omega arith)))
    ∙ ap (prepend_to_first b)
    (lines_of-last (c ∷ bs) (omega arith)
    (λ j low high. none (suc j) (omega arith) (omega arith)))

-- ---- the rest

all_but_first : (bs : List ℕ) → take (length bs - 1) (drop 1 bs) ≡ drop 1 bs
all_but_first [] = refl
all_but_first (b ∷ bs) = grind (arith, common_steps)

-- the rest begins after the line feed
pub lines_of-before : (bs line more : List ℕ) (k : ℕ)
    → lines_of bs ≡ take k bs ∷ lines_of (drop 1 (drop k bs)) → line ≡ take k bs → more ≡ drop k bs
    → lines_of bs ≡ line ∷ lines_of (take (length more - 1) (drop 1 more))
lines_of-before bs line more k first is_line is_more =
    rw (all_but_first more, is_more, is_line) first

-- nothing is left after the last line
pub lines_of-at_end : (bs line more : List ℕ) → lines_of bs ≡ bs ∷ [] → line ≡ take (length bs) bs
    → more ≡ drop (length bs) bs → lines_of bs ≡ line ∷ lines_of more
lines_of-at_end bs line more last is_line is_more =
    rw (is_line, is_more, take-length bs, drop-length bs) last

-- ---- the loop of `cut_lines`

-- one more line is pushed
pub lines_of-push : (lines after : List (Bor (List ℕ))) (line : Bor (List ℕ)) (rest more : List ℕ)
    (all : List (List ℕ)) → lines_of rest ≡ line.now ∷ lines_of more
    → map (λ x. x.now) lines ++ lines_of rest ≡ all → after ≡ lines ++ line ∷ []
    → map (λ x. x.now) after ++ lines_of more ≡ all
lines_of-push lines after line rest more all first so_far pushed =
    rw (pushed, map-append, append_assoc, ← first) so_far

-- no bytes are left
pub lines_of-none_left : (lines : List (Bor (List ℕ))) (rest : List ℕ) (all : List (List ℕ))
    → length rest ≡ 0 → map (λ x. x.now) lines ++ lines_of rest ≡ all
    → map (λ x. x.now) lines ≡ all
lines_of-none_left lines [] all e so_far = sym (append-nil _) ∙ so_far
lines_of-none_left lines (b ∷ rest) all e so_far = absurd (omega arith)
