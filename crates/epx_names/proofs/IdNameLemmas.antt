-- The text of an Id, and its parts before and after the dot.
use Rattle.std.proofs.Common.{◌≡◌, ◌≢◌, ℕ, zero, suc, ◌^◌, ◌<◌, eqb, Bool, List, ◌∷◌, ◌++◌, length}
use Rattle.std.proofs.Common.{get_or, codes, decimal, None, Ok, Err, Result, IfSome, IfNone, sym}
use Rattle.std.proofs.Common.{ap, ◌∙◌, arith, ne_eqb, eq-eqb, append_assoc, length-append}
use Rattle.std.proofs.Math.ListN.{get_or-append}
use Rattle.epx_types.proofs.Common.{get_or-append_seam, take-append_seam, drop-append-add}
use Rattle.epx_types.proofs.Common.{ParsesUnsigned, id_text}
use Rattle.epx_types.specs.declared.id.Id.{Id}
use Rattle.std.proofs.lemmas.Fmt.{decimal_is_IsNumeral, decimal_digit, first_decimal}
use Rattle.std.proofs.lemmas.Fmt.{decimal-digits_value, parse-decimal}
use Rattle.std.proofs.lemmas.List.Sums.{position_or_len_is}
use Rattle.std.proofs.lemmas.Str.Parse.{not_in_digits, numerals_by_value, tells_digits, parse_plain}
use Rattle.std.specs.List.{before_first, after_first, position_or_len}
use Rattle.std.specs.Result.{result_ok, OkIff}
use Rattle.epx_names.specs.IdNames.{FitsIdTypes}

-- ---- the first byte of a number

pub decimal-no_plus : (n : ℕ) → n < 2 ^ 64 → get_or (decimal n) 0 0 ≢ 43
decimal-no_plus n h = let number = decimal_is_IsNumeral n h in
    not_in_digits (numerals_by_value _ tells_digits) (decimal n) 43 number.0.1
    (λ r. absurd (omega (arith, r))) 0 number.0.0

pub decimal-leading_zero : (n : ℕ) → n < 2 ^ 64 → get_or (decimal n) 0 0 ≡ 48
    → length (decimal n) ≡ 1
decimal-leading_zero zero h e = ap length (decimal_digit 0 (omega arith))
decimal-leading_zero (suc n) h e = absurd (omega (arith, first_decimal (suc n) (omega arith) h))

-- ---- what `parse` reads

pub IfSome-parsed_decimal : {E : Type 0} (text : List ℕ) (r : Result ℕ E)
    → ParsesUnsigned 64 10 text r
    → get_or text 0 0 ≢ 43 → (get_or text 0 0 ≡ 48 → length text ≡ 1)
    → IfSome (result_ok r) (λ n. text ≡ decimal n)
IfSome-parsed_decimal {E} text (Err e) h plus lead = tt
IfSome-parsed_decimal {E} text (Ok n) h plus lead =
    let own = numerals_by_value _ tells_digits in
    let read = parse_plain own {E = E} 64 text (Ok n) h plus in
    sym (decimal-digits_value own text read.0.0 read.0.1 lead read.0.2) ∙ ap decimal (sym read.1)

pub IfNone-parsed_decimal : {E : Type 0} (text : List ℕ) (r : Result ℕ E)
    → ParsesUnsigned 64 10 text r
    → IfNone (result_ok r) ((n : ℕ) → n < 2 ^ 64 → text ≢ decimal n)
IfNone-parsed_decimal text (Ok n) h = tt
IfNone-parsed_decimal text (Err e) h = λ n small is.
    let e = parse-decimal 64 n text (Err e) small small is h in cc

-- ---- the parts before and after the dot

abbrev pub is_dot : ℕ → Bool
is_dot b = eqb b 46

no_dot : (n : ℕ) → n < 2 ^ 64 → (k : ℕ) → k < length (decimal n) → get_or (decimal n) k 0 ≢ 46
no_dot n h = not_in_digits (numerals_by_value _ tells_digits) (decimal n) 46
    (decimal_is_IsNumeral n h).0.1 (λ r. absurd (omega (arith, r)))

dot_place : (n : ℕ) (rest : List ℕ) → n < 2 ^ 64
    → position_or_len is_dot (decimal n ++ 46 ∷ rest) ≡ length (decimal n)
dot_place n rest small = position_or_len_is is_dot (decimal n ++ 46 ∷ rest) (length (decimal n)) 0
    (simp length-append (omega arith))
    (λ k h.
    rw (get_or-append (decimal n) (46 ∷ rest) 0 k h) (ne_eqb _ 46 (no_dot n small k h)))
    (λ _. eq-eqb _ 46 (get_or-append_seam (decimal n) 46 rest 0))

parts_text : (x : Id) → id_text x ≡ decimal x.replica ++ 46 ∷ decimal x.number
parts_text x = append_assoc (decimal x.replica) (codes ".") (decimal x.number)

-- where the text of an Id has its dot
dot_of : (text : List ℕ) (x : Id) → FitsIdTypes x → text ≡ id_text x
    → position_or_len is_dot text ≡ length (decimal x.replica)
dot_of text x fits is = ap (position_or_len is_dot) (is ∙ parts_text x)
    ∙ dot_place x.replica (decimal x.number) (omega arith)

pub position_or_len-dot : (text : List ℕ) (x : Id) → FitsIdTypes x → text ≡ id_text x
    → position_or_len is_dot text < length text
position_or_len-dot text x fits is =
    let dot = dot_of text x fits is in
    let long = ap length (is ∙ parts_text x) in
    omega (arith, dot, simp length-append at long)

pub before_first-dot : (text : List ℕ) (x : Id) → FitsIdTypes x → text ≡ id_text x
    → before_first is_dot text ≡ decimal x.replica
before_first-dot text x fits is =
    let dot = dot_of text x fits is in
    let parts = is ∙ parts_text x in
    let seam = take-append_seam (decimal x.replica) (46 ∷ decimal x.number) in
    cc

pub after_first-dot : (text : List ℕ) (x : Id) → FitsIdTypes x → text ≡ id_text x
    → after_first is_dot text ≡ decimal x.number
after_first-dot text x fits is =
    let dot = dot_of text x fits is in
    let parts = is ∙ parts_text x in
    let seam = drop-append-add (decimal x.replica) (46 ∷ decimal x.number) 1 in
    cc

-- ---- the replica

pub OkIff-none : {E : Type 0} (n : ℕ) (r : Result ℕ E) → OkIff r (n < 256) n → None ≡ result_ok r
    → ¬ (n < 256)
OkIff-none n (Ok m) h e = cc
OkIff-none n (Err e) h _ = h
