-- Every string among the tokens of a UTF-8 JSON text is UTF-8.
use Rattle.std.proofs.Common.{◌≡◌, ℕ, ◌+◌, ◌*◌, ◌<◌, Bool, true, false, ◌&&◌, ◌||◌, ◌==◌, nat_lt}
use Rattle.std.proofs.Common.{cond, List, [], ◌∷◌, ◌++◌, length, get_or, Option, Some, None, IsUtf8}
use Rattle.std.proofs.Common.{option_map, option_and_then, Ordering, Less, Equal, Greater, refl}
use Rattle.std.proofs.Common.{sym, subst, arith, rules, append-nil, append_assoc, ltb-true, IfSome}
use Rattle.epx_types.proofs.Common.{⊤, AllByRecursion, match_ordering, get_or-append_seam}
use Rattle.epx_types.proofs.Common.{drop-append-add, take-append_seam, eqb-true, and_parts}
use Rattle.epx_types.proofs.Common.{nat_tests, length-append, IfSome_then}
use Rattle.std.specs.Char.{is_digit, encode_utf8}
use Rattle.std.proofs.Math.Utf8.{scalar, low_scalar}
use Rattle.std.proofs.lemmas.Str.{IsUtf8-append, IsUtf8-encode, IsUtf8-take, IsUtf8-drop}
use Rattle.std.proofs.lemmas.Str.{IsCharBoundary-before_ascii, IsCharBoundary-after_ascii}
use Rattle.std.proofs.lemmas.Str.{encode_ascii}
use Rattle.json.specs.Token.{Token, key, string, bad}
use Rattle.json.specs.Text.{code_unit, short_escape, is_high_surrogate, is_low_surrogate}
use Rattle.json.specs.Text.{surrogate_pair, plain, after_backslash, after_u, after_high, prepend}
use Rattle.json.specs.Text.{content}
use Rattle.json.specs.Word.{number_before, ends_word, word}
use Rattle.json.specs.Lex.{Lexeme, token, comma, colon, Class, quote, backslash, operator, other}
use Rattle.json.specs.Lex.{class, operator_lexeme, string_token, Mode, between, in_word, in_string}
use Rattle.json.specs.Lex.{lex_byte, lex, Place, fresh, after_value, after_comma, after_key}
use Rattle.json.specs.Lex.{if_allowed, place_token, punctuate, begins_colon, tokens}

-- ---- tests and optional values

-- a choice satisfies P if each branch does under its result of the test
pub cond-cases : {A : Type 0} (P : A → Type 0) (b : Bool) (x y : A) → (b ≡ true → P x)
    → (b ≡ false → P y) → P (cond b x y)
cond-cases P true x y p q = p refl
cond-cases P false x y p q = q refl

-- a choice satisfies P if both branches do, whatever the test is
pub cond-both : {A : Type 0} (P : A → Type 0) (b : Bool) (x y : A) → P x → P y → P (cond b x y)
cond-both P true x y p q = p
cond-both P false x y p q = q

-- a choice by an ordering satisfies P if all three branches do
pub match_ordering-cases : {A : Type 0} (P : A → Type 0) (o : Ordering) (x y z : A) → P x → P y
    → P z
    → P (match_ordering o x y z)
match_ordering-cases P Less x y z p q r = p
match_ordering-cases P Equal x y z p q r = q
match_ordering-cases P Greater x y z p q r = r

-- P holds for the value of a choice, if there is a value, where it holds for those of the branches
module _ {A : Type 0} (P : A → Type 0) (b : Bool) (o p : Option A) where
  pub IfSome-test : (b ≡ true → IfSome o P) → (b ≡ false → IfSome p P) → IfSome (cond b o p) P
  IfSome-test h k = cond-cases (λ (o : Option A). IfSome o P) b o p h k

  pub IfSome-branch : IfSome o P → IfSome p P → IfSome (cond b o p) P
  IfSome-branch h k = cond-both (λ (o : Option A). IfSome o P) b o p h k

-- f takes each value that satisfies P to one that satisfies Q
module _ {A B : Type 0} (P : A → Type 0) (Q : B → Type 0) where
  pub IfSome-map : (f : A → B) (o : Option A) → IfSome o P → ((a : A) → P a → Q (f a))
      → IfSome (option_map f o) Q
  IfSome-map f None h next = tt
  IfSome-map f (Some a) h next = next a h

  pub IfSome-and_then : (f : A → Option B) (o : Option A) → IfSome o P
      → ((a : A) → P a → IfSome (f a) Q) → IfSome (option_and_then f o) Q
  IfSome-and_then f None h next = tt
  IfSome-and_then f (Some a) h next = next a h

-- nothing is claimed about the value
pub IfSome-trivial : {A : Type 0} (o : Option A) → IfSome o (λ _. ⊤)
IfSome-trivial None = tt
IfSome-trivial (Some a) = tt

-- ---- a UTF-8 text before and after an ASCII byte

module _ (front : List ℕ) (x : ℕ) (xs : List ℕ) (small : x < 128)
    (text : IsUtf8 (front ++ x ∷ xs)) where
  within : length front < length (front ++ x ∷ xs)
  within = omega (arith, length-append front (x ∷ xs))

  is_ascii : get_or (front ++ x ∷ xs) (length front) 0 < 128
  is_ascii = omega (arith, get_or-append_seam front x xs 0)

  before_ascii : IsUtf8 front
  before_ascii =
      subst IsUtf8 (take-append_seam front (x ∷ xs))
      (IsUtf8-take _ (length front) text (IsCharBoundary-before_ascii _ _ within is_ascii))

  after_ascii : IsUtf8 xs
  after_ascii =
      subst IsUtf8 (drop-append-add front (x ∷ xs) 1)
      (IsUtf8-drop _ (length front + 1) text
      (IsCharBoundary-after_ascii _ _ text within is_ascii))

-- ---- the content of a string

-- the content, if there is one, makes UTF-8 when it follows `front`
abbrev IsUtf8After : List ℕ → Option (List ℕ) → Type 0
IsUtf8After front o = IfSome o (λ s. IsUtf8 (front ++ s))

prepend_utf8 : (bytes : List ℕ) (o : Option (List ℕ)) → IsUtf8 bytes → IsUtf8After [] o
    → IsUtf8After [] (prepend bytes o)
prepend_utf8 bytes o u h =
    IfSome-map (λ s. IsUtf8 s) (λ s. IsUtf8 s) _ o h (λ s v. IsUtf8-append bytes s u v)

ascii_byte : (x : ℕ) → x < 128 → IsUtf8 (x ∷ [])
ascii_byte x small =
    subst IsUtf8 (encode_ascii x small) (IsUtf8-encode x (low_scalar x (omega arith)))

four_digits : (a b c d : ℕ) → a < 16 → b < 16 → c < 16 → d < 16
    → a * 4096 + b * 256 + c * 16 + d < 65536
four_digits a b c d i j k l = omega arith

digit_is_ascii : (d : ℕ) → is_digit d 16 ≡ true → d < 128
digit_is_ascii d e = grind (arith, nat_tests)

-- a code unit has 16 bits, and its last digit is ASCII
abbrev IsUnit : ℕ → ℕ → Type 0
IsUnit d u = (u < 65536) × (d < 128)

code_unit_fits : (a b c d : ℕ) → IfSome (code_unit a b c d) (IsUnit d)
unfolding code_unit
code_unit_fits a b c d =
    IfSome-test (IsUnit d) (is_digit a 16 && is_digit b 16 && is_digit c 16 && is_digit d 16) _ _
    (λ e.
    let p = and_parts _ _ e in
    let q = and_parts _ _ p.0 in
    let r = and_parts _ _ q.0 in
    let small = four_digits _ _ _ _ (ltb-true _ _ r.0) (ltb-true _ _ r.1) (ltb-true _ _ q.1)
    (ltb-true _ _ p.1) in
    (small, digit_is_ascii d p.1))
    (λ _. tt)

-- an escape's byte x and the character c that it spells are ASCII
abbrev IsEscape : ℕ → ℕ → Type 0
IsEscape x c = (c < 128) × (x < 128)

escape_or : (x n c : ℕ) (o : Option ℕ) → n < 128 → c < 128 → IfSome o (IsEscape x)
    → IfSome (cond (x == n) (Some c) o) (IsEscape x)
escape_or x n c o small ascii rest =
    IfSome-test (IsEscape x) (x == n) _ _ (λ e. let same = eqb-true x n e in (ascii, omega arith))
    (λ _. rest)

short_escape_fits : (x : ℕ) → IfSome (short_escape x) (IsEscape x)
unfolding short_escape
short_escape_fits x =
    IfSome-test (IsEscape x) ((x == 34) || (x == 92) || (x == 47)) _ _
    (λ e. let small : x < 128 = grind (arith, nat_tests) in (small, small))
    (λ _. escape_or x 98 8 _ (omega arith) (omega arith)
    (escape_or x 102 12 _ (omega arith) (omega arith)
    (escape_or x 110 10 _ (omega arith) (omega arith)
    (escape_or x 114 13 _ (omega arith) (omega arith)
    (escape_or x 116 9 None (omega arith) (omega arith) tt)))))

unit_scalar : (u : ℕ) → u < 65536 → is_high_surrogate u ≡ false → is_low_surrogate u ≡ false
    → scalar u ≡ true
unit_scalar u l h k = grind (arith, nat_tests)

pair_scalar : (high low : ℕ) → is_high_surrogate high ≡ true → is_low_surrogate low ≡ true
    → scalar (surrogate_pair high low) ≡ true
pair_scalar high low h k = grind (arith, nat_tests)

encoded : (u : ℕ) → scalar u ≡ true → IsUtf8 (encode_utf8 u)
unfolding encode_utf8
encoded u ok = IsUtf8-encode u ok

-- `content` reads byte by byte, so a step can be inside a character: `front` has the bytes that
-- were read before. An escape is ASCII, so the text after it is UTF-8 again.
mutual
  unfolding content

  plain_utf8 : (xs front : List ℕ) → IsUtf8 (front ++ xs) → IsUtf8After front (content plain xs)
  plain_utf8 [] front u = tt
  plain_utf8 (x ∷ xs) front u =
      cond-cases (IsUtf8After front) (x == 34) _ _
      (λ e.
      let same = eqb-true x 34 e in
      subst IsUtf8 (sym (append-nil front)) (before_ascii front x xs (omega arith) u))
      (λ _. cond-cases (IsUtf8After front) (x == 92) _ _
      (λ e.
      let same = eqb-true x 92 e in
      let small : x < 128 = omega arith in
      let before = before_ascii front x xs small u in
      IfSome_then _ (backslash_utf8 xs (after_ascii front x xs small u))
      (λ s v. IsUtf8-append front s before v))
      (λ _. cond-both (IsUtf8After front) (nat_lt x 32) _ _ tt
      (IfSome-map (λ s. IsUtf8 ((front ++ x ∷ []) ++ s)) (λ s. IsUtf8 (front ++ s)) _ _
      (plain_utf8 xs (front ++ x ∷ []) (subst IsUtf8 (sym (append_assoc front (x ∷ []) xs)) u))
      (λ s v. subst IsUtf8 (append_assoc front (x ∷ []) s) v))))

  backslash_utf8 : (xs : List ℕ) → IsUtf8 xs → IsUtf8After [] (content after_backslash xs)
  backslash_utf8 [] u = tt
  backslash_utf8 (x ∷ xs) u =
      cond-cases (IsUtf8After []) (x == 117) _ _
      (λ e. let same = eqb-true x 117 e in unit_utf8 xs (after_ascii [] x xs (omega arith) u))
      (λ _. IfSome-and_then (IsEscape x) (λ s. IsUtf8 s) _ _ (short_escape_fits x) (λ c e.
      prepend_utf8 (c ∷ []) _ (ascii_byte c e.0) (plain_utf8 xs [] (after_ascii [] x xs e.1 u))))

  unit_utf8 : (xs : List ℕ) → IsUtf8 xs → IsUtf8After [] (content after_u xs)
  unit_utf8 (a ∷ b ∷ c ∷ d ∷ xs) u =
      IfSome-and_then (IsUnit d) (λ s. IsUtf8 s) _ _ (code_unit_fits a b c d) (λ v e.
      let rest = after_ascii (a ∷ b ∷ c ∷ []) d xs e.1 u in
      cond-cases (IsUtf8After []) (is_high_surrogate v) _ _ (λ high. low_utf8 v high xs rest)
      (λ not_high. cond-cases (IsUtf8After []) (is_low_surrogate v) _ _ (λ _. tt)
      (λ not_low. prepend_utf8 _ _ (encoded v (unit_scalar v e.0 not_high not_low))
      (plain_utf8 xs [] rest))))
  unit_utf8 xs u = tt

  low_utf8 : (h : ℕ) → is_high_surrogate h ≡ true → (xs : List ℕ) → IsUtf8 xs
      → IsUtf8After [] (content (after_high h) xs)
  low_utf8 h high (s ∷ v ∷ a ∷ b ∷ c ∷ d ∷ xs) u =
      cond-both (IsUtf8After []) ((s == 92) && (v == 117)) _ _
      (IfSome-and_then (IsUnit d) (λ s. IsUtf8 s) _ _ (code_unit_fits a b c d) (λ l e.
      cond-cases (IsUtf8After []) (is_low_surrogate l) _ _
      (λ low.
      let rest = after_ascii (s ∷ v ∷ a ∷ b ∷ c ∷ []) d xs e.1 u in
      prepend_utf8 _ _ (encoded _ (pair_scalar h l high low)) (plain_utf8 xs [] rest))
      (λ _. tt)))
      tt
  low_utf8 h high xs u = tt

-- ---- lexemes

-- a string is UTF-8; nothing is claimed about a key, because no limit depends on it
abbrev pub FitsToken : Token → Type 0
FitsToken (string s) = IsUtf8 s
FitsToken _ = ⊤

-- the token of a lexeme fits, if the lexeme is a token
abbrev FitsLexeme : Lexeme → Type 0
FitsLexeme (token t) = FitsToken t
FitsLexeme _ = ⊤

string_token_fits : (o : Option (List ℕ)) → IsUtf8After [] o → FitsToken (string_token o)
string_token_fits None h = tt
string_token_fits (Some s) h = h

number_fits : (t : List ℕ) (o : Option (List ℕ)) → FitsToken (number_before t o)
number_fits t None = tt
number_fits t (Some rest) = cond-both FitsToken (ends_word rest) _ _ tt tt

word_fits : (xs : List ℕ) → FitsToken (word xs)
unfolding word
word_fits xs = search (rules, cond-both FitsToken, number_fits)

operator_fits : (x : ℕ) → FitsLexeme (operator_lexeme x)
operator_fits x = search (rules, cond-both FitsLexeme)

-- if the byte before xs is a quote, xs is UTF-8
abbrev AfterQuote : List ℕ → Class → Type 0
AfterQuote xs quote = IsUtf8 xs
AfterQuote xs _ = ⊤

after_quote : (x : ℕ) (xs : List ℕ) → (x ≡ 34 → IsUtf8 xs) → AfterQuote xs (class x)
after_quote x xs after =
    cond-cases (AfterQuote xs) (x == 34) _ _ (λ e. after (eqb-true x 34 e))
    (λ _. search (rules, cond-both (AfterQuote xs)))

byte_fits : (m : Mode) (c : Class) (x : ℕ) (xs : List ℕ) (k : Mode → List Lexeme)
    → AfterQuote xs c
    → ((next : Mode) → AllByRecursion FitsLexeme (k next))
    → AllByRecursion FitsLexeme (lex_byte m c x xs k)
byte_fits between quote x xs k after rest =
    (string_token_fits (content plain xs) (plain_utf8 xs [] after), rest in_string)
byte_fits between backslash x xs k after rest = (tt, rest in_word)
byte_fits between operator x xs k after rest = (operator_fits x, rest between)
byte_fits between other x xs k after rest = (word_fits (x ∷ xs), rest in_word)
byte_fits in_word operator x xs k after rest = (operator_fits x, rest between)
byte_fits in_string quote x xs k after rest = rest between
byte_fits m c x xs k after rest = rest _

lexemes_fit : (m : Mode) (xs front : List ℕ) → IsUtf8 (front ++ xs)
    → AllByRecursion FitsLexeme (lex m xs)
unfolding lex
lexemes_fit m [] front u = tt
lexemes_fit m (x ∷ xs) front u =
    byte_fits m (class x) x xs _
    (after_quote x xs (λ same. after_ascii front x xs (omega arith) u))
    (λ next. lexemes_fit next xs (front ++ x ∷ [])
    (subst IsUtf8 (sym (append_assoc front (x ∷ []) xs)) u))

-- ---- tokens

-- each string among them is UTF-8
abbrev pub FitTokens : List Token → Type 0
FitTokens ts = AllByRecursion FitsToken ts

allowed_fit : (b : Bool) (t : Token) (k : Place → List Token) (p : Place) → FitsToken t
    → FitTokens (k p) → FitTokens (if_allowed b t k p)
allowed_fit true t k p h rest = (h, rest)
allowed_fit false t k p h rest = (tt, tt)

placed_fit : (p : Place) (t : Token) (before_colon : Bool) (k : Place → List Token)
    → FitsToken t → ((next : Place) → FitTokens (k next))
    → FitTokens (place_token p t before_colon k)
placed_fit p (key s) b k h rest = (tt, tt)
placed_fit p bad b k h rest = (tt, tt)
placed_fit p (string s) true k h rest = allowed_fit _ (key s) k _ tt (rest _)
placed_fit p t b k h rest = allowed_fit _ t k _ h (rest _)

punctuated_fit : (p : Place) (ls : List Lexeme) → AllByRecursion FitsLexeme ls
    → FitTokens (punctuate p ls)
unfolding punctuate
punctuated_fit p (token t ∷ ls) h =
    placed_fit p t (begins_colon ls) _ h.0 (λ next. punctuated_fit next ls h.1)
punctuated_fit after_value (comma ∷ ls) h = punctuated_fit after_comma ls h.1
punctuated_fit after_key (colon ∷ ls) h = punctuated_fit fresh ls h.1
punctuated_fit fresh [] h = tt
punctuated_fit after_value [] h = tt
punctuated_fit p ls h = (tt, tt)

-- each string among the tokens of a UTF-8 text is UTF-8
pub FitTokens-tokens : (text : List ℕ) → IsUtf8 text → FitTokens (tokens text)
FitTokens-tokens text u = punctuated_fit fresh (lex between text) (lexemes_fit between text [] u)
