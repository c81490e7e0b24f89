-- The number that a text of only digits, or of digits after a minus, means.
use Rattle.std.proofs.Common.{◌≡◌, ◌≢◌, ℕ, zero, suc, ◌+◌, ◌-◌, ◌*◌, ◌^◌, ◌<◌, ◌≤◌, pos, neg_ℤ}
use Rattle.std.proofs.Common.{true, false, List, [], length, take, drop, get_or, Some, refl, sym}
use Rattle.std.proofs.Common.{ap, ◌∙◌, arith, append-nil, lt-ltb, le-leb, ne_eqb, eq-eqb}
use Rattle.epx_types.proofs.Common.{nat_tests}
use Rattle.std.proofs.lemmas.Float.Parse.{scan_numeral-text_of}
use Rattle.std.proofs.lemmas.Int.Digits.{digits_more, digits_value_more}
use Rattle.std.proofs.lemmas.Str.Parse.{not_in_digits, numerals_by_value, tells_digits}
use Rattle.std.specs.Char.{digit_value}
use Rattle.std.specs.Float.Numeral.{Parts, scan_numeral}
use Rattle.std.specs.Int.{IsInRange}
use Rattle.std.specs.Str.Parse.{AllDigits, digits_value}
use Rattle.serde_json.specs.Data.{unsigned}
use Rattle.serde_json.specs.Find.{of_integer}
use Rattle.serde_json.specs.Read.{number_of, number_from}
use Rattle.epx_lines.specs.between.Tokens.{AreDigitsOf}

-- a text of only digits
abbrev digits_alone : List ℕ → Parts
digits_alone text = record {
  whole = text;
  point = false;
  fraction = [];
  exponent_negative = false;
  exponent = [];
  len = length text;
}

scan-digits : (text : List ℕ) → AllDigits 10 text → scan_numeral text ≡ digits_alone text
scan-digits text h = ap scan_numeral (sym (append-nil text))
    ∙ scan_numeral-text_of (digits_alone text) (record {
      whole_digits = h;
      fraction_digits = tt;
      exponent_digits = tt;
      no_point = λ _. refl;
      no_exponent = λ _. refl;
      len_is = ap length (sym (append-nil text));
    })

-- ---- the text of a number

no_minus : (text : List ℕ) (n : ℕ) → AreDigitsOf text n → get_or text 0 0 ≢ 45
no_minus text n h = not_in_digits (numerals_by_value _ tells_digits) text 45 h.0.1
    (λ r. absurd (omega (arith, r))) 0 h.0.0

from_digits : (text : List ℕ) (n : ℕ) → AreDigitsOf text n → n < 2 ^ 64
    → number_from false (scan_numeral text) ≡ Some (unsigned n)
from_digits text n h l =
    rw (scan-digits text h.0.1, append-nil, h.1, lt-ltb 0 (length text) h.0.0, lt-ltb n (2 ^ 64) l)

pub number_of-digits : (text : List ℕ) (n : ℕ) → AreDigitsOf text n → n < 2 ^ 64
    → number_of text ≡ Some (unsigned n)
unfolding number_of
number_of-digits text n h l = rw (ne_eqb (get_or text 0 0) 45 (no_minus text n h))
    (from_digits text n h l)

negative_from_digits : (text : List ℕ) (n : ℕ) → AreDigitsOf text (suc n) → n < 2 ^ 63
    → number_from true (scan_numeral text) ≡ Some (of_integer (neg_ℤ (pos (suc n))))
negative_from_digits text n h l =
    rw (
      scan-digits text h.0.1,
      append-nil,
      h.1,
      lt-ltb 0 (length text) h.0.0,
      lt-ltb 0 (suc n) (omega arith),
      le-leb (suc n) (2 ^ 63) l,
    )

pub number_of-minus : (text : List ℕ) (n : ℕ) → get_or text 0 0 ≡ 45 → AreDigitsOf (drop 1 text) n
    → 0 < n → n ≤ 2 ^ 63 → number_of text ≡ Some (of_integer (neg_ℤ (pos n)))
unfolding number_of
number_of-minus text zero minus h some l = absurd (omega arith)
number_of-minus text (suc n) minus h some l =
    rw (eq-eqb (get_or text 0 0) 45 minus) (negative_from_digits (drop 1 text) n h l)

-- ---- the loop over the digits

digit_of : (c : ℕ) → IsInRange 48 57 c → (digit_value c < 10) × (digit_value c ≡ c - 48)
digit_of c h = (grind (arith, nat_tests), grind (arith, nat_tests))

pub AllDigits-more : (text : List ℕ) (i n : ℕ) → AllDigits 10 (take i text)
    → digits_value 10 (take i text) ≡ n → i < length text → IsInRange 48 57 (get_or text i 0)
    → AllDigits 10 (take (i + 1) text)
    × (digits_value 10 (take (i + 1) text) ≡ n * 10 + (get_or text i 0 - 48))
AllDigits-more text i n all value l range =
    let digit = digit_of (get_or text i 0) range in
    (digits_more 10 text i l all digit.0, rw (digits_value_more 10 text i l, value, digit.1))
