-- The compact text of a JSON value has no line feed.
use Rattle.std.proofs.Common.{◌≡◌, ℕ, zero, suc, ◌+◌, ◌/◌, ◌%◌, ◌==◌, ◌<◌, Bool, true, false, cond}
use Rattle.std.proofs.Common.{nat_lt, ℤ, pos, negsuc, List, [], ◌∷◌, ◌++◌, decimal, refl, arith}
use Rattle.epx_types.proofs.Common.{nat_tests}
use Rattle.std.specs.Fmt.{digit_glyph, digits, digits_onto, signed_decimal}
use Rattle.serde_json.specs.Data.{Num, unsigned, negative, float, Data, null, boolean, number}
use Rattle.serde_json.specs.Data.{string, array, object, Items, no_items, item, Members}
use Rattle.serde_json.specs.Data.{no_members, member}
use Rattle.serde_json.specs.Written.{number_text, compact_text, items_text, members_text}
use Rattle.json.specs.Print.{quoted}
use Rattle.epx_report.proofs.LineFeedLemmas.{is_unbroken, is_unbroken-append, is_unbroken-quoted}

-- ---- numbers

glyph : (n : ℕ) (acc : List ℕ) → n < 10 → is_unbroken acc ≡ true
    → is_unbroken (digit_glyph false n ∷ acc) ≡ true
glyph n acc l h =
    let low : nat_lt n 10 ≡ true = grind (arith, nat_tests) in
    let other : (48 + n == 10) ≡ false = grind (arith, nat_tests) in
    rw low (rw other h)

either : (b : Bool) (x y : List ℕ) → is_unbroken x ≡ true → is_unbroken y ≡ true
    → is_unbroken (cond b x y) ≡ true
either true x y h k = h
either false x y h k = k

is_unbroken-digits_onto : (k n : ℕ) (acc : List ℕ) → is_unbroken acc ≡ true
    → is_unbroken (digits_onto k 10 false n acc) ≡ true
is_unbroken-digits_onto zero n acc h = h
is_unbroken-digits_onto (suc k) n acc h =
    let more = glyph (n % 10) acc (omega arith) h in
    either (n / 10 == 0) _ _ more
    (is_unbroken-digits_onto k (n / 10) (digit_glyph false (n % 10) ∷ acc) more)

is_unbroken-decimal : (n : ℕ) → is_unbroken (decimal n) ≡ true
unfolding digits
is_unbroken-decimal n = is_unbroken-digits_onto 64 n [] refl

is_unbroken-signed : (v : ℤ) → is_unbroken (signed_decimal v) ≡ true
is_unbroken-signed (pos n) = is_unbroken-decimal n
is_unbroken-signed (negsuc n) = is_unbroken-decimal (suc n)

is_unbroken-number : (n : Num) → is_unbroken (number_text n) ≡ true
is_unbroken-number (unsigned n) = is_unbroken-decimal n
is_unbroken-number (negative v) = is_unbroken-signed v
is_unbroken-number (float x) = refl

-- ---- values

mutual
  pub is_unbroken-value : (d : Data) → is_unbroken (compact_text d) ≡ true
  is_unbroken-value null = refl
  is_unbroken-value (boolean true) = refl
  is_unbroken-value (boolean false) = refl
  is_unbroken-value (number n) = is_unbroken-number n
  is_unbroken-value (string s) = is_unbroken-quoted s
  is_unbroken-value (array ds) = is_unbroken-items false ds
  is_unbroken-value (object ms) = is_unbroken-members false ms

  is_unbroken-items : (later : Bool) (ds : Items) → is_unbroken (items_text later ds) ≡ true
  is_unbroken-items later no_items = refl
  is_unbroken-items true (item d ds) =
      is_unbroken-append (compact_text d) (items_text true ds) (is_unbroken-value d)
      (is_unbroken-items true ds)
  is_unbroken-items false (item d ds) =
      is_unbroken-append (compact_text d) (items_text true ds) (is_unbroken-value d)
      (is_unbroken-items true ds)

  is_unbroken-members : (later : Bool) (ms : Members)
      → is_unbroken (members_text later ms) ≡ true
  is_unbroken-members later no_members = refl
  is_unbroken-members true (member k d ms) =
      is_unbroken-append (quoted k) (58 ∷ (compact_text d ++ members_text true ms))
      (is_unbroken-quoted k)
      (is_unbroken-append (compact_text d) (members_text true ms) (is_unbroken-value d)
      (is_unbroken-members true ms))
  is_unbroken-members false (member k d ms) =
      is_unbroken-append (quoted k) (58 ∷ (compact_text d ++ members_text true ms))
      (is_unbroken-quoted k)
      (is_unbroken-append (compact_text d) (members_text true ms) (is_unbroken-value d)
      (is_unbroken-members true ms))
