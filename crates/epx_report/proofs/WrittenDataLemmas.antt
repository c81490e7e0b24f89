-- The text of a value without objects and floats is read back as that value.
use Rattle.std.proofs.Common.{◌≡◌, ℕ, suc, ◌+◌, ◌-◌, ◌^◌, ◌<◌, ◌≤◌, nat_lt, ℤ, pos, negsuc, Bool}
use Rattle.std.proofs.Common.{true, false, [], ◌∷◌, ◌++◌, Some, IsUtf8, option_map, option_and_then}
use Rattle.std.proofs.Common.{decimal, refl, sym, ap, ◌∙◌, arith, append-nil}
use Rattle.std.proofs.lemmas.Str.{IsUtf8-append, IsUtf8-from_ascii}
use Rattle.std.proofs.lemmas.Fmt.{IsAscii-decimal}
use Rattle.std.proofs.lemmas.Int.{ints}
use Rattle.epx_types.proofs.Common.{w64, nat_tests}
use Rattle.std.specs.Int.RustNames.{FitsSigned}
use Rattle.serde_json.specs.Find.{of_integer}
use Rattle.std.specs.Fmt.{signed_decimal, digits}
use Rattle.json.specs.Json as json
use Rattle.json.specs.Print.{IsNumber}
use Rattle.json.specs.Word.{after_number}
use Rattle.json.specs.Tree as tree
use Rattle.json.specs.Lex.{tokens}
use Rattle.json.proofs.Printed.Tokens.{tokens-print}
use Rattle.json.proofs.Printed.Trees.{value-json_tokens, ArePrintable-json_tokens}
use Rattle.json.proofs.Printed.Decimals.{IsNumber-decimal, IsNumber-signed_decimal}
use Rattle.json.proofs.Printed.Utf8.{IsUtf8-are_ascii, IsUtf8-quoted}
use Rattle.serde_json.specs.Data.{Num, unsigned, negative, Data, null, boolean, number, string}
use Rattle.serde_json.specs.Data.{array, object, Items, no_items, item, depth, items_depth}
use Rattle.serde_json.specs.Read.{number_of, of_json, of_items, read, max_depth}
use Rattle.serde_json.specs.Written.{number_text, outline, items_outline, compact_text, items_text}
use Rattle.serde_json.proofs.Texts.{print-outline}
use Rattle.serde_json.proofs.Numbers.{number_of-decimal, number_of-negative}
use Rattle.epx_report.proofs.LineFeedLemmas.{is_unbroken, is_unbroken-append, is_unbroken-decimal}
use Rattle.epx_report.proofs.LineFeedLemmas.{is_unbroken-quoted}
use Rattle.epx_lines.specs.Meaning.{json_of}
use Rattle.epx_lines.proofs.JsonTextLemmas.{json_of-some}

-- a number whose text is read as that number
pub record IsWritable (n : Num) : Type 0 where
  pub reads : number_of (number_text n) ≡ Some n
  pub shaped : IsNumber (number_text n)
  pub utf8 : IsUtf8 (number_text n)
  pub unbroken : is_unbroken (number_text n) ≡ true

-- a value without objects, with numbers that can be written and texts in UTF-8
abbrev mutual
  pub IsPlain : Data → Type 0
  IsPlain null = Unit {0}
  IsPlain (boolean b) = ⊥
  IsPlain (number n) = IsWritable n
  IsPlain (string s) = IsUtf8 s
  IsPlain (array ds) = ArePlain ds
  IsPlain (object ms) = ⊥

  pub ArePlain : Items → Type 0
  ArePlain no_items = Unit {0}
  ArePlain (item d ds) = IsPlain d × ArePlain ds

mutual
  numbers_shaped : (d : Data) → IsPlain d → tree.HasNumbers (outline d)
  numbers_shaped null h = tt
  numbers_shaped (boolean b) h = tt
  numbers_shaped (number n) h = h.shaped
  numbers_shaped (string s) h = tt
  numbers_shaped (array ds) h = item_numbers_shaped ds h
  numbers_shaped (object ms) h = absurd h

  item_numbers_shaped : (ds : Items) → ArePlain ds → tree.ItemsHaveNumbers (items_outline ds)
  item_numbers_shaped no_items h = tt
  item_numbers_shaped (item d ds) h = (numbers_shaped d h.0, item_numbers_shaped ds h.1)

mutual
  of_json-outline : (d : Data) → IsPlain d → of_json (outline d) ≡ Some d
  of_json-outline null h = refl
  of_json-outline (boolean b) h = refl
  of_json-outline (number n) h = ap (option_map number) h.reads
  of_json-outline (string s) h = refl
  of_json-outline (array ds) h = ap (option_map array) (of_items-outline ds h)
  of_json-outline (object ms) h = absurd h

  of_items-outline : (ds : Items) → ArePlain ds → of_items (items_outline ds) ≡ Some ds
  of_items-outline no_items h = refl
  of_items-outline (item d ds) h = rw (of_json-outline d h.0, of_items-outline ds h.1) refl

mutual
  depth-outline : (d : Data) → IsPlain d → tree.depth (outline d) ≡ depth d
  depth-outline null h = refl
  depth-outline (boolean b) h = refl
  depth-outline (number n) h = refl
  depth-outline (string s) h = refl
  depth-outline (array ds) h = ap suc (items_depth-outline ds h)
  depth-outline (object ms) h = absurd h

  items_depth-outline : (ds : Items) → ArePlain ds
      → tree.items_depth (items_outline ds) ≡ items_depth ds
  items_depth-outline no_items h = refl
  items_depth-outline (item d ds) h = rw (depth-outline d h.0, items_depth-outline ds h.1) refl

mutual
  IsUtf8-compact_text : (d : Data) → IsPlain d → IsUtf8 (compact_text d)
  IsUtf8-compact_text null h = IsUtf8-are_ascii _ refl
  IsUtf8-compact_text (boolean b) h = absurd h
  IsUtf8-compact_text (number n) h = h.utf8
  IsUtf8-compact_text (string s) h = IsUtf8-quoted s h
  IsUtf8-compact_text (array ds) h =
      IsUtf8-append (91 ∷ []) _ (IsUtf8-are_ascii (91 ∷ []) refl) (IsUtf8-items_text false ds h)
  IsUtf8-compact_text (object ms) h = absurd h

  IsUtf8-items_text : (later : Bool) (ds : Items) → ArePlain ds → IsUtf8 (items_text later ds)
  IsUtf8-items_text later no_items h = IsUtf8-are_ascii (93 ∷ []) refl
  IsUtf8-items_text true (item d ds) h =
      IsUtf8-append (44 ∷ []) _ (IsUtf8-are_ascii (44 ∷ []) refl)
      (IsUtf8-append (compact_text d) _ (IsUtf8-compact_text d h.0)
      (IsUtf8-items_text true ds h.1))
  IsUtf8-items_text false (item d ds) h =
      IsUtf8-append (compact_text d) _ (IsUtf8-compact_text d h.0) (IsUtf8-items_text true ds h.1)

mutual
  pub is_unbroken-compact_text : (d : Data) → IsPlain d → is_unbroken (compact_text d) ≡ true
  is_unbroken-compact_text null h = refl
  is_unbroken-compact_text (boolean b) h = absurd h
  is_unbroken-compact_text (number n) h = h.unbroken
  is_unbroken-compact_text (string s) h = is_unbroken-quoted s
  is_unbroken-compact_text (array ds) h = is_unbroken-items_text false ds h
  is_unbroken-compact_text (object ms) h = absurd h

  is_unbroken-items_text : (later : Bool) (ds : Items) → ArePlain ds
      → is_unbroken (items_text later ds) ≡ true
  is_unbroken-items_text later no_items h = refl
  is_unbroken-items_text true (item d ds) h =
      is_unbroken-append (compact_text d) (items_text true ds) (is_unbroken-compact_text d h.0)
      (is_unbroken-items_text true ds h.1)
  is_unbroken-items_text false (item d ds) h =
      is_unbroken-append (compact_text d) (items_text true ds) (is_unbroken-compact_text d h.0)
      (is_unbroken-items_text true ds h.1)

tokens-compact_text : (d : Data) → IsPlain d
    → tokens (compact_text d) ≡ tree.json_tokens (outline d) ++ []
tokens-compact_text d h =
    ap tokens (sym (print-outline d))
    ∙ tokens-print (tree.json_tokens (outline d))
    (ArePrintable-json_tokens (outline d) (numbers_shaped d h))
    ∙ sym (append-nil (tree.json_tokens (outline d)))

-- the text of a plain value is read as that value
pub read-compact_text : (d : Data) → IsPlain d → depth d ≤ max_depth
    → read (compact_text d) ≡ Some d
read-compact_text d h shallow =
    let value = ap (json.value max_depth) (tokens-compact_text d h)
    ∙ value-json_tokens (outline d) max_depth [] (omega (arith, depth-outline d h)) in
    ap (λ o. option_and_then of_json (option_and_then (λ p. json.if_last p.0 p.1) o)) value
    ∙ of_json-outline d h

pub json_of-compact_text : (d : Data) → IsPlain d → depth d ≤ max_depth
    → json_of (compact_text d) ≡ Some d
json_of-compact_text d h shallow =
    json_of-some (compact_text d) d (IsUtf8-compact_text d h, read-compact_text d h shallow)

-- ---- numbers

pub IsWritable-unsigned : (n : ℕ) → n < 2 ^ 64 → IsWritable (unsigned n)
IsWritable-unsigned n l =
    record {
      reads = number_of-decimal n l;
      shaped = IsNumber-decimal n l;
      utf8 = IsUtf8-from_ascii (decimal n) (IsAscii-decimal n l);
      unbroken = is_unbroken-decimal n l;
    }

-- the least signed number of 64 bits is a case of its own
shaped-least : IsNumber (signed_decimal (negsuc (2 ^ 63 - 1)))
unfolding after_number digits
shaped-least = refl

shaped-negative : (t : Bool) (n : ℕ) → nat_lt (n + 1) (2 ^ 63) ≡ t → n < 2 ^ 63
    → IsNumber (signed_decimal (negsuc n))
shaped-negative true n e l = let within : n + 1 < 2 ^ 63 = grind (arith, nat_tests) in
    IsNumber-signed_decimal (negsuc n) (omega arith)
shaped-negative false n e l =
    let past : 2 ^ 63 ≤ n + 1 = grind (arith, nat_tests) in
    let same : n ≡ 2 ^ 63 - 1 = omega arith in
    rw same shaped-least

pub IsWritable-negative : (n : ℕ) → n < 2 ^ 63 → IsWritable (negative (negsuc n))
IsWritable-negative n l = record {
  reads = number_of-negative n l;
  shaped = shaped-negative (nat_lt (n + 1) (2 ^ 63)) n refl l;
  utf8 = IsUtf8-append (45 ∷ []) _ (IsUtf8-are_ascii (45 ∷ []) refl)
      (IsUtf8-from_ascii (decimal (suc n)) (IsAscii-decimal (suc n) (omega arith)));
  unbroken = is_unbroken-decimal (suc n) (omega arith);
}

pub IsWritable-of_integer : (v : ℤ) → FitsSigned w64 v → IsWritable (of_integer v)
IsWritable-of_integer (pos n) h = let l : n < 2 ^ 63 = omega (arith, ints, h) in
    IsWritable-unsigned n (omega arith)
IsWritable-of_integer (negsuc n) h = IsWritable-negative n (omega (arith, ints, h))
