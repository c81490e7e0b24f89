-- Text without line feeds, such as that of a plain value. The lines of a text are those that were
-- written.
use Rattle.std.proofs.Common.{◌≡◌, ℕ, zero, suc, ◌+◌, ◌%◌, ◌^◌, ◌<◌, ◌≤◌, Bool, true, false, not}
use Rattle.std.proofs.Common.{nat_lt, ◌==◌, ◌&&◌, List, [], ◌∷◌, ◌++◌, map, flat_map, All, decimal}
use Rattle.std.proofs.Common.{refl, ap, ◌∙◌, arith, append_assoc}
use Rattle.epx_types.proofs.Common.{nat_tests, list_all}
use Rattle.std.proofs.lemmas.Fmt.{decimal_by_steps}
use Rattle.std.proofs.lemmas.List.Folds.{list_all-append}
use Rattle.json.specs.Print.{escape_byte, escape, quoted}
use Rattle.epx_lines.specs.Lines.{prepend_to_first, lines_of}

-- no line feed is among the bytes
abbrev pub is_unbroken : List ℕ → Bool
is_unbroken bytes = list_all (λ b. not (b == 10)) bytes

pub is_unbroken-append : (xs ys : List ℕ) → is_unbroken xs ≡ true → is_unbroken ys ≡ true
    → is_unbroken (xs ++ ys) ≡ true
is_unbroken-append xs ys h k = rw (list_all-append (λ b. not (b == 10)) xs ys, h, k) refl

-- ---- the lines of a text

lines_of-unbroken_at : (t : Bool) (b : ℕ) (l rest : List ℕ) → (b == 10) ≡ t
    → (not t && is_unbroken l) ≡ true
    → (is_unbroken l ≡ true → lines_of (l ++ 10 ∷ rest) ≡ l ∷ lines_of rest)
    → lines_of (b ∷ l ++ 10 ∷ rest) ≡ (b ∷ l) ∷ lines_of rest
lines_of-unbroken_at true b l rest e h more = absurd (cc h)
lines_of-unbroken_at false b l rest e h more = rw e (ap (prepend_to_first b) (more h))

pub lines_of-unbroken : (l rest : List ℕ) → is_unbroken l ≡ true
    → lines_of (l ++ 10 ∷ rest) ≡ l ∷ lines_of rest
lines_of-unbroken [] rest h = refl
lines_of-unbroken (b ∷ l) rest h =
    lines_of-unbroken_at (b == 10) b l rest refl h (lines_of-unbroken l rest)

-- the lines of a text that begins with a line for each item
pub lines_of-each : {X : Type 0} (text : X → List ℕ) (xs : List X) (rest : List ℕ)
    → All (λ x. is_unbroken (text x) ≡ true) xs
    → lines_of (flat_map (λ x. text x ++ 10 ∷ []) xs ++ rest) ≡ map text xs ++ lines_of rest
lines_of-each text [] rest h = refl
lines_of-each text (x ∷ xs) rest h =
    ap lines_of (append_assoc (text x ++ 10 ∷ []) (flat_map (λ y. text y ++ 10 ∷ []) xs) rest
    ∙ append_assoc (text x) (10 ∷ []) (flat_map (λ y. text y ++ 10 ∷ []) xs ++ rest))
    ∙ lines_of-unbroken (text x) (flat_map (λ y. text y ++ 10 ∷ []) xs ++ rest)
    (h 0 x (omega arith))
    ∙ ap (λ ls. text x ∷ ls) (lines_of-each text xs rest (λ k d l. h (suc k) d (omega arith)))

-- ---- numbers

digit : (n : ℕ) → n < 10 → is_unbroken ((48 + n) ∷ []) ≡ true
digit n l = let other : (48 + n == 10) ≡ false = grind (arith, nat_tests) in rw other refl

digit_after : (n : ℕ) (ds : List ℕ) → 10 ≤ n → is_unbroken ds ≡ true
    → is_unbroken (ds ++ (48 + n % 10) ∷ []) ≡ true
digit_after n ds l h = is_unbroken-append ds ((48 + n % 10) ∷ []) h (digit (n % 10) (omega arith))

pub is_unbroken-decimal : (n : ℕ) → n < 2 ^ 64 → is_unbroken (decimal n) ≡ true
is_unbroken-decimal = decimal_by_steps (λ n ds. is_unbroken ds ≡ true) digit digit_after

-- ---- texts

-- the escapes of the bytes below n
abbrev escapes_below : ℕ → Bool
escapes_below zero = true
escapes_below (suc n) = is_unbroken (escape_byte n) && escapes_below n

low_escapes : escapes_below 93 ≡ true
unfolding escape_byte
low_escapes = refl

and_left : (a b : Bool) → (a && b) ≡ true → a ≡ true
and_left true b h = refl
and_left false b h = h

and_right : (a b : Bool) → (a && b) ≡ true → b ≡ true
and_right true b h = h
and_right false b h = absurd (cc h)

escape_at : (t : Bool) (n k : ℕ) → nat_lt k n ≡ t → k < suc n → is_unbroken (escape_byte n) ≡ true
    → (k < n → is_unbroken (escape_byte k) ≡ true) → is_unbroken (escape_byte k) ≡ true
escape_at true n k e l last before = before (grind (arith, nat_tests))
escape_at false n k e l last before = let past : n ≤ k = grind (arith, nat_tests) in
    let same : k ≡ n = omega arith in rw same last

escape_below : (n k : ℕ) → escapes_below n ≡ true → k < n → is_unbroken (escape_byte k) ≡ true
escape_below zero k h l = absurd (omega arith)
escape_below (suc n) k h l = escape_at (nat_lt k n) n k refl l (and_left _ _ h)
    (escape_below n k (and_right _ _ h))

high_escape : (x : ℕ) → 93 ≤ x → is_unbroken (escape_byte x) ≡ true
unfolding escape_byte
high_escape x l =
    let a : (x == 34) ≡ false = grind (arith, nat_tests) in
    let b : (x == 92) ≡ false = grind (arith, nat_tests) in
    let c : (x == 8) ≡ false = grind (arith, nat_tests) in
    let d : (x == 12) ≡ false = grind (arith, nat_tests) in
    let e : (x == 10) ≡ false = grind (arith, nat_tests) in
    let f : (x == 13) ≡ false = grind (arith, nat_tests) in
    let g : (x == 9) ≡ false = grind (arith, nat_tests) in
    let i : nat_lt x 32 ≡ false = grind (arith, nat_tests) in
    rw (a, b, c, d, e, f, g, i) (rw e refl)

escape_either : (t : Bool) (x : ℕ) → nat_lt x 93 ≡ t → is_unbroken (escape_byte x) ≡ true
escape_either true x e = escape_below 93 x low_escapes (grind (arith, nat_tests))
escape_either false x e = high_escape x (grind (arith, nat_tests))

is_unbroken-escape : (s : List ℕ) → is_unbroken (escape s) ≡ true
is_unbroken-escape [] = refl
is_unbroken-escape (x ∷ s) = is_unbroken-append (escape_byte x) (escape s)
    (escape_either (nat_lt x 93) x refl) (is_unbroken-escape s)

pub is_unbroken-quoted : (s : List ℕ) → is_unbroken (quoted s) ≡ true
is_unbroken-quoted s = is_unbroken-append (escape s) (34 ∷ []) (is_unbroken-escape s) refl
