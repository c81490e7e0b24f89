-- In the value of a UTF-8 JSON text each string is UTF-8, and each number that is read as an i64
-- fits 64 bits.
use Rattle.std.proofs.Common.{ℕ, zero, suc, ◌^◌, ◌≤◌, ◌&&◌, nat_lt, nat_le, Bool, true, false, pos}
use Rattle.std.proofs.Common.{w64, List, [], ◌∷◌, length, Option, Some, None, IsUtf8, option_map}
use Rattle.std.proofs.Common.{option_and_then, arith, rules, ltb-true, leb-true, FitsSigned, IfSome}
use Rattle.std.proofs.Common.{neg_ℤ}
use Rattle.epx_types.proofs.Common.{⊤, nat_cmp, and_parts}
use Rattle.std.specs.Float.Numeral.{Parts, numeral_digits}
use Rattle.std.specs.Cmp.Lexicographic.{slice_cmp}
use Rattle.json.specs.Token.{Token}
use Rattle.json.specs.Lex.{tokens}
use Rattle.json.specs.Json as json
use Rattle.json.specs.Json.{Parse, after_end_array, read_key, items_step, members_step, items}
use Rattle.json.specs.Json.{members, value_with, value}
use Rattle.serde_json.specs.Data.{Num, unsigned, Data, number, string, array, object, Items}
use Rattle.serde_json.specs.Data.{no_items, item, Members, no_members, member, put}
use Rattle.serde_json.specs.Find.{as_i64}
use Rattle.serde_json.specs.Read.{is_integer, float_of, number_from, number_of, of_json, of_items}
use Rattle.serde_json.specs.Read.{of_members, max_depth, read}
use Rattle.epx_report.proofs.JsonStringLemmas.{match_ordering-cases, IfSome-test, IfSome-branch}
use Rattle.epx_report.proofs.JsonStringLemmas.{IfSome-map}
use Rattle.epx_report.proofs.JsonStringLemmas.{IfSome-and_then, FitTokens, FitTokens-tokens}

-- ---- values

-- the number as an i64, if it is one, fits 64 bits
abbrev pub FitsNum : Num → Type 0
FitsNum n = IfSome (as_i64 n) (FitsSigned w64)

-- each string is UTF-8, and each number fits; nothing is claimed about the keys of an object
abbrev mutual
  pub FitsData : Data → Type 0
  FitsData (number n) = FitsNum n
  FitsData (string s) = IsUtf8 s
  FitsData (array ds) = FitItems ds
  FitsData (object ms) = FitMembers ms
  FitsData _ = ⊤

  pub FitItems : Items → Type 0
  FitItems no_items = ⊤
  FitItems (item d ds) = FitsData d × FitItems ds

  pub FitMembers : Members → Type 0
  FitMembers no_members = ⊤
  FitMembers (member k d ms) = FitsData d × FitMembers ms

put_fits : (k : List ℕ) (d : Data) (ms : Members) → FitsData d → FitMembers ms
    → FitMembers (put k d ms)
put_fits k d no_members p q = (p, tt)
put_fits k d (member l e ms) p q =
    match_ordering-cases FitMembers (slice_cmp nat_cmp k l) _ _ _ (p, q) (p, q.1)
    (q.0, put_fits k d ms p q.1)

-- ---- numbers

float_fits : (sign : Bool) (p : Parts) → IfSome (float_of sign p) FitsNum
float_fits sign p = search (rules, IfSome-branch FitsNum)

unsigned_fits : (n : ℕ) → FitsNum (unsigned n)
unsigned_fits n =
    IfSome-test (FitsSigned w64) (nat_lt n (2 ^ 63)) _ _ (λ e. record { sfits = ltb-true _ _ e })
    (λ _. tt)

negative_fits : (n : ℕ) → n ≤ 2 ^ 63 → FitsSigned w64 (neg_ℤ (pos n))
negative_fits zero h = record { sfits = omega arith }
negative_fits (suc n) h = record { sfits = h }

number_from_fits : (sign : Bool) (p : Parts) → IfSome (number_from sign p) FitsNum
number_from_fits false p = search (rules, IfSome-branch FitsNum, unsigned_fits, float_fits)
number_from_fits true p =
    IfSome-test FitsNum
    (is_integer p && nat_lt 0 (numeral_digits p) && nat_le (numeral_digits p) (2 ^ 63)) _ _
    (λ e. negative_fits _ (leb-true _ _ (and_parts _ _ e).1))
    (λ _. float_fits true p)

number_of_fits : (s : List ℕ) → IfSome (number_of s) FitsNum
unfolding number_of
number_of_fits s = search (rules, IfSome-branch FitsNum, number_from_fits)

-- ---- the parsers

-- the value that a JSON tree converts to, if there is one, fits
abbrev JsonFits : json.Json → Type 0
JsonFits j = IfSome (of_json j) FitsData

-- the values that the items of a JSON array convert to, if they all do, fit
abbrev JsonItemsFit : json.Items → Type 0
JsonItemsFit js = IfSome (of_items js) FitItems

-- the members, added to members that fit, leave members that fit
abbrev JsonMembersFit : json.Members → Type 0
JsonMembersFit ms = (found : Members) → FitMembers found → IfSome (of_members ms found) FitMembers

-- the value that was read fits, and so do the tokens that are left
abbrev Read : {A : Type 0} → (A → Type 0) → A × List Token → Type 0
Read P r = P r.0 × FitTokens r.1

-- from tokens that fit, the parser reads a result that fits
abbrev Reads : {A : Type 0} → (A → Type 0) → Parse A → Type 0
Reads P parse = (ts : List Token) → FitTokens ts → IfSome (parse ts) (Read P)

after_end_array_fits : (ts : List Token) → FitTokens ts → IfSome (after_end_array ts) FitTokens
after_end_array_fits (Token.end_array ∷ ts) h = h.1
after_end_array_fits ts h = tt

read_key_fits : Reads (λ _. ⊤) read_key
read_key_fits (Token.end_object ∷ ts) h = (tt, h.1)
read_key_fits (Token.key s ∷ ts) h = (tt, h.1)
read_key_fits ts h = tt

module _ (p : Parse json.Json) (fits : Reads JsonFits p) where
  items_step_fits : (more : Parse json.Items) → Reads JsonItemsFit more → (ts : List Token)
      → FitTokens ts
      → (o : Option (List Token)) → IfSome o FitTokens
      → IfSome (items_step p more ts o) (Read JsonItemsFit)
  items_step_fits more again ts h (Some rest) k = (tt, k)
  items_step_fits more again ts h None k =
      IfSome-and_then (Read JsonFits) (Read JsonItemsFit) _ _ (fits ts h)
      (λ r first. IfSome-map (Read JsonItemsFit) (Read JsonItemsFit) _ _ (again r.1 first.1)
      (λ s others. (
        IfSome-and_then FitsData FitItems (λ d. option_map (item d) (of_items s.0))
            (of_json r.0) first.0
            (λ d x. IfSome-map FitItems FitItems (item d) (of_items s.0) others.0
            (λ ds y. (x, y))),
        others.1,
      )))

  items_fit : (n : ℕ) → Reads JsonItemsFit (items p n)
  unfolding items
  items_fit zero ts h = tt
  items_fit (suc n) ts h =
      items_step_fits (items p n) (items_fit n) ts h (after_end_array ts)
      (after_end_array_fits ts h)

  members_step_fits : (more : Parse json.Members) → Reads JsonMembersFit more
      → (key : Option (List ℕ)) → Reads JsonMembersFit (members_step p more key)
  members_step_fits more again None ts h = (λ found k. k, h)
  members_step_fits more again (Some name) ts h =
      IfSome-and_then (Read JsonFits) (Read JsonMembersFit) _ _ (fits ts h)
      (λ r first. IfSome-map (Read JsonMembersFit) (Read JsonMembersFit) _ _ (again r.1 first.1)
      (λ s others. (
        λ found k. IfSome-and_then FitsData FitMembers _ _ first.0
            (λ d x. others.0 (put name d found) (put_fits name d found x k)),
        others.1,
      )))

  members_fit : (n : ℕ) → Reads JsonMembersFit (members p n)
  unfolding members
  members_fit zero ts h = tt
  members_fit (suc n) ts h =
      IfSome-and_then (Read (λ _. ⊤)) (Read JsonMembersFit) _ _ (read_key_fits ts h)
      (λ r k. members_step_fits (members p n) (members_fit n) r.0 r.1 k.1)

value_with_fits : (a : Parse json.Items) (o : Parse json.Members) → Reads JsonItemsFit a
    → Reads JsonMembersFit o → Reads JsonFits (value_with a o)
value_with_fits a o p q (Token.begin_object ∷ ts) h =
    IfSome-map (Read JsonMembersFit) (Read JsonFits) _ _ (q ts h.1)
    (λ r x. (IfSome-map FitMembers FitsData _ _ (x.0 no_members tt) (λ ms y. y), x.1))
value_with_fits a o p q (Token.begin_array ∷ ts) h =
    IfSome-map (Read JsonItemsFit) (Read JsonFits) _ _ (p ts h.1)
    (λ r x. (IfSome-map FitItems FitsData _ _ x.0 (λ ds y. y), x.1))
value_with_fits a o p q (Token.string s ∷ ts) h = h
value_with_fits a o p q (Token.number s ∷ ts) h =
    (IfSome-map FitsNum FitsData number (number_of s) (number_of_fits s) (λ n x. x), h.1)
value_with_fits a o p q (Token.boolean b ∷ ts) h = (tt, h.1)
value_with_fits a o p q (Token.null ∷ ts) h = (tt, h.1)
value_with_fits a o p q ts h = tt

value_fits : (depth : ℕ) → Reads JsonFits (value depth)
unfolding value
value_fits zero = value_with_fits (λ ts. None) (λ ts. None) (λ ts h. tt) (λ ts h. tt)
value_fits (suc depth) =
    value_with_fits (λ ts. items (value depth) (length ts) ts)
    (λ ts. members (value depth) (length ts) ts)
    (λ ts h. items_fit (value depth) (value_fits depth) (length ts) ts h)
    (λ ts h. members_fit (value depth) (value_fits depth) (length ts) ts h)

if_last_fits : (j : json.Json) (ts : List Token) → JsonFits j
    → IfSome (json.if_last j ts) JsonFits
if_last_fits j [] h = h
if_last_fits j (t ∷ ts) h = tt

-- the value of a UTF-8 text fits
pub IfSome-read : (text : List ℕ) → IsUtf8 text → IfSome (read text) FitsData
IfSome-read text u =
    let parsed = value max_depth (tokens text) in
    let last : json.Json × List Token → Option json.Json = λ r. json.if_last r.0 r.1 in
    IfSome-and_then JsonFits FitsData of_json (option_and_then last parsed)
    (IfSome-and_then (Read JsonFits) JsonFits last parsed
    (value_fits max_depth (tokens text) (FitTokens-tokens text u))
    (λ r fits. if_last_fits r.0 r.1 fits.0))
    (λ j fits. fits)
