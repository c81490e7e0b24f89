-- Each line of a report is a line of a base.
use Rattle.std.proofs.Common.{◌≡◌, ℕ, suc, ◌+◌, ◌*◌, ◌^◌, ◌<◌, ◌≤◌, ℤ, Bool, true, false, nat_lt}
use Rattle.std.proofs.Common.{nat_le, is_some, codes, List, [], ◌∷◌, ◌++◌, length, map, All, Option}
use Rattle.std.proofs.Common.{Some, None, IsUtf8, option_map, decimal, refl, ap, arith}
use Rattle.std.proofs.Common.{length-append, lit<}
use Rattle.epx_types.proofs.Common.{nat_tests, length-decimal-le, w64, list_all, Waiting, FitsKey}
use Rattle.epx_types.specs.declared.id.Id.{Id}
use Rattle.epx_types.specs.declared.reply.Reply.{Reply}
use Rattle.epx_types.specs.declared.reply.Reply.TheVariants.{Values, Abort}
use Rattle.std.specs.Int.RustNames.{FitsSigned}
use Rattle.json.specs.Print.{escape_byte, quoted}
use Rattle.json.proofs.Printed.Utf8.{are_ascii, IsUtf8-are_ascii}
use Rattle.serde_json.specs.Data.{Data, null, number, string, depth, items_depth}
use Rattle.serde_json.specs.Find.{of_integer}
use Rattle.serde_json.specs.Read.{max_depth}
use Rattle.serde_json.specs.View.{items_of}
use Rattle.serde_json.specs.Written.{compact_text, items_text}
use Rattle.epx_lines.specs.Elements.{list_of}
use Rattle.epx_lines.specs.Meaning.{max_line_bytes}
use Rattle.epx_lines.specs.OperationList.{value_or_null}
use Rattle.epx_lines.specs.Text.{data_of_value}
use Rattle.epx_lines.proofs.WrittenPartLemmas.{whole-fits, key_of-fits, length-quoted}
use Rattle.epx_lines.proofs.WrittenPartLemmas.{IsWritableValue-from_range}
use Rattle.epx_report.specs.declared.from_value.BaseLine.{BaseLine}
use Rattle.epx_report.specs.declared.from_value.BaseLine.TheVariants as line
use Rattle.epx_report.specs.Forms.{counts_of, header_of, is_value_list, is_op_index, is_outcome}
use Rattle.epx_report.specs.Forms.{id_line_of, short_line_of, form_of, base_line_of}
use Rattle.epx_report.specs.ReportLines.{array_of, data_of_number, header_data, done_data}
use Rattle.epx_report.specs.ReportLines.{reply_data, waiting_data, store_data}
use Rattle.epx_report.specs.ReportReadings.{FitsNumbers, FitsOptional, FitsReply}
use Rattle.epx_report.proofs.WrittenDataLemmas.{IsPlain, ArePlain, IsWritable-unsigned}
use Rattle.epx_report.proofs.WrittenDataLemmas.{IsWritable-of_integer, json_of-compact_text}

-- ---- a plain value of the form of a base's line is written as a line of a base

pub base_line_of-written : (d : Data) (l : BaseLine) → IsPlain d → depth d ≤ max_depth
    → length (compact_text d) ≤ max_line_bytes → form_of d ≡ Some l
    → base_line_of (compact_text d) ≡ Some l
unfolding base_line_of
base_line_of-written d l plain shallow short form =
    let not_long : nat_lt max_line_bytes (length (compact_text d)) ≡ false =
    grind (arith, nat_tests) in
    rw (not_long, json_of-compact_text d plain shallow) form

-- ---- parts

length-number : (n : ℕ) → n < 2 ^ 64 → length (decimal n) ≤ 20
length-number n l = length-decimal-le 20 n (lit< tt) (omega arith) l

plain_number : (n : ℕ) → n < 2 ^ 64 → IsPlain (data_of_number n)
plain_number n l = IsWritable-unsigned n l

plain_name : (name : List ℕ) → are_ascii name ≡ true → IsPlain (string name)
plain_name name ascii = IsUtf8-are_ascii name ascii

-- ---- the first line

counts_of-written : (executed waiting components : ℕ) → executed < 2 ^ 64 → waiting < 2 ^ 64
    → components ≤ executed
    → counts_of (data_of_number executed) (data_of_number waiting) (data_of_number components)
    ≡ Some (record { executed = executed; waiting = waiting })
unfolding counts_of
counts_of-written executed waiting components e w c =
    let few : nat_le components executed ≡ true = grind (arith, nat_tests) in
    rw (
      whole-fits (2 ^ 64) executed e,
      whole-fits (2 ^ 64) waiting w,
      whole-fits (2 ^ 64) components (omega arith),
      few,
    ) refl

pub form_of-header : (executed waiting components : ℕ) → executed < 2 ^ 64 → waiting < 2 ^ 64
    → components ≤ executed
    → form_of (array_of (header_data executed waiting components))
    ≡ Some (line.Header (record { executed = executed; waiting = waiting }))
unfolding form_of header_of
form_of-header executed waiting components e w c =
    ap (option_map line.Header) (counts_of-written executed waiting components e w c)

length-header : (executed waiting components : ℕ) → executed < 2 ^ 64 → waiting < 2 ^ 64
    → components < 2 ^ 64
    → length (compact_text (array_of (header_data executed waiting components))) ≤ max_line_bytes
unfolding escape_byte
length-header executed waiting components e w c =
    let third = decimal components ++ 93 ∷ [] in
    let second = decimal waiting ++ 44 ∷ (quoted (codes "components") ++ 44 ∷ third) in
    omega (
      arith,
      length-number executed e,
      length-number waiting w,
      length-number components c,
      length-append (decimal executed) (44 ∷ (quoted (codes "waiting") ++ 44 ∷ second)),
      length-append (decimal waiting) (44 ∷ (quoted (codes "components") ++ 44 ∷ third)),
      length-append (decimal components) (93 ∷ []),
    )

pub IsPlain-header : (executed waiting components : ℕ) → executed < 2 ^ 64 → waiting < 2 ^ 64
    → components < 2 ^ 64 → IsPlain (array_of (header_data executed waiting components))
IsPlain-header executed waiting components e w c = (
  plain_name (codes "executed") refl,
  (
    plain_number executed e,
    (
      plain_name (codes "waiting") refl,
      (
        plain_number waiting w,
        (plain_name (codes "components") refl, (plain_number components c, tt)),
      ),
    ),
  ),
)

pub base_line_of-header : (executed waiting components : ℕ) → executed < 2 ^ 64 → waiting < 2 ^ 64
    → components ≤ executed
    → base_line_of (compact_text (array_of (header_data executed waiting components)))
    ≡ Some (line.Header (record { executed = executed; waiting = waiting }))
base_line_of-header executed waiting components e w c =
    base_line_of-written (array_of (header_data executed waiting components)) _
    (IsPlain-header executed waiting components e w (omega arith))
    (omega arith) (length-header executed waiting components e w (omega arith))
    (form_of-header executed waiting components e w c)

-- ---- waiting lines

form_of-waiting : (w : Waiting) → FitsNumbers w.id → FitsNumbers w.missing
    → form_of (array_of (waiting_data w)) ≡ Some (line.Waiting w.id)
unfolding form_of id_line_of
form_of-waiting w x m =
    rw (
      whole-fits 256 w.id.replica x.0,
      whole-fits (2 ^ 64) w.id.number x.1,
      whole-fits 256 w.missing.replica m.0,
      whole-fits (2 ^ 64) w.missing.number m.1,
    ) refl

length-waiting : (w : Waiting) → FitsNumbers w.id → FitsNumbers w.missing
    → length (compact_text (array_of (waiting_data w))) ≤ max_line_bytes
unfolding escape_byte
length-waiting w x m =
    let fourth = decimal w.missing.number ++ 93 ∷ [] in
    let third = decimal w.missing.replica ++ 44 ∷ fourth in
    let second = decimal w.id.number ++ 44 ∷ third in
    omega (
      arith,
      length-number w.id.replica (omega (arith, x.0)),
      length-number w.id.number x.1,
      length-number w.missing.replica (omega (arith, m.0)),
      length-number w.missing.number m.1,
      length-append (decimal w.id.replica) (44 ∷ second),
      length-append (decimal w.id.number) (44 ∷ third),
      length-append (decimal w.missing.replica) (44 ∷ fourth),
      length-append (decimal w.missing.number) (93 ∷ []),
    )

pub IsPlain-waiting : (w : Waiting) → FitsNumbers w.id → FitsNumbers w.missing
    → IsPlain (array_of (waiting_data w))
IsPlain-waiting w x m = (
  plain_name (codes "waiting") refl,
  (
    plain_number w.id.replica (omega (arith, x.0)),
    (
      plain_number w.id.number x.1,
      (
        plain_number w.missing.replica (omega (arith, m.0)),
        (plain_number w.missing.number m.1, tt),
      ),
    ),
  ),
)

pub base_line_of-waiting : (w : Waiting) → FitsNumbers w.id → FitsNumbers w.missing
    → base_line_of (compact_text (array_of (waiting_data w))) ≡ Some (line.Waiting w.id)
base_line_of-waiting w x m =
    base_line_of-written (array_of (waiting_data w)) _ (IsPlain-waiting w x m) (omega arith)
    (length-waiting w x m) (form_of-waiting w x m)

-- ---- done lines and store lines

form_of-store : (k : List ℕ) (v : ℤ) → FitsKey k → FitsSigned w64 v
    → form_of (array_of (store_data (k, v))) ≡ Some (line.Store k v)
unfolding form_of short_line_of
form_of-store k v key fits = rw (key_of-fits k key)
    (ap (option_map (line.Store k)) (IsWritableValue-from_range v fits).reads)

length-store : (k : List ℕ) (v : ℤ) → FitsKey k → FitsSigned w64 v
    → length (compact_text (array_of (store_data (k, v)))) ≤ max_line_bytes
unfolding escape_byte
length-store k v key fits =
    let value = compact_text (number (of_integer v)) in
    omega (
      arith,
      length-quoted k key,
      (IsWritableValue-from_range v fits).short,
      length-append (quoted k) (44 ∷ (value ++ 93 ∷ [])),
      length-append value (93 ∷ []),
    )

pub IsPlain-store : (k : List ℕ) (v : ℤ) → IsUtf8 k → FitsSigned w64 v
    → IsPlain (array_of (store_data (k, v)))
IsPlain-store k v utf8 fits =
    (plain_name (codes "store") refl, (utf8, (IsWritable-of_integer v fits, tt)))

pub base_line_of-store : (k : List ℕ) (v : ℤ) → FitsKey k → IsUtf8 k → FitsSigned w64 v
    → base_line_of (compact_text (array_of (store_data (k, v)))) ≡ Some (line.Store k v)
base_line_of-store k v key utf8 fits =
    base_line_of-written (array_of (store_data (k, v))) _ (IsPlain-store k v utf8 fits)
    (omega arith)
    (length-store k v key fits) (form_of-store k v key fits)

form_of-done : (x : Id) → FitsNumbers x → form_of (array_of (done_data x)) ≡ Some (line.Done x)
unfolding form_of short_line_of
form_of-done x h = rw (whole-fits 256 x.replica h.0, whole-fits (2 ^ 64) x.number h.1) refl

length-done : (x : Id) → FitsNumbers x
    → length (compact_text (array_of (done_data x))) ≤ max_line_bytes
unfolding escape_byte
length-done x h =
    omega (
      arith,
      length-number x.replica (omega (arith, h.0)),
      length-number x.number h.1,
      length-append (decimal x.replica) (44 ∷ (decimal x.number ++ 93 ∷ [])),
      length-append (decimal x.number) (93 ∷ []),
    )

-- ---- replies

plain_values : (vs : List (Option ℤ)) → All FitsOptional vs
    → ArePlain (items_of (map data_of_value vs))
plain_values [] h = tt
plain_values (None ∷ vs) h = (tt, plain_values vs (λ k d l. h (suc k) d (omega arith)))
plain_values (Some v ∷ vs) h = (
  IsWritable-of_integer v (h 0 (Some v) (omega arith)),
  plain_values vs (λ k d l. h (suc k) d (omega arith)),
)

value_or_null-written : (v : ℤ) → FitsSigned w64 v
    → value_or_null (data_of_value (Some v)) ≡ Some (Some v)
unfolding value_or_null
value_or_null-written v h = ap (option_map Some) (IsWritableValue-from_range v h).reads

value_or_null-null : value_or_null null ≡ Some None
unfolding value_or_null
value_or_null-null = refl

all_values_or_null : (vs : List (Option ℤ)) → All FitsOptional vs
    → list_all (λ d. is_some (value_or_null d)) (list_of (items_of (map data_of_value vs))) ≡ true
all_values_or_null [] h = refl
all_values_or_null (None ∷ vs) h =
    rw (value_or_null-null) (all_values_or_null vs (λ k d l. h (suc k) d (omega arith)))
all_values_or_null (Some v ∷ vs) h =
    rw (value_or_null-written v (h 0 (Some v) (omega arith)))
    (all_values_or_null vs (λ k d l. h (suc k) d (omega arith)))

length-values : (vs : List (Option ℤ))
    → length (list_of (items_of (map data_of_value vs))) ≡ length vs
length-values [] = refl
length-values (v ∷ vs) = ap suc (length-values vs)

is_value_list-written : (vs : List (Option ℤ)) → length vs ≤ 64 → All FitsOptional vs
    → is_value_list (array_of (map data_of_value vs)) ≡ true
unfolding is_value_list
is_value_list-written vs few held =
    let within : nat_le (length vs) 64 ≡ true = grind (arith, nat_tests) in
    rw (length-values vs, within) (all_values_or_null vs held)

is_op_index-written : (j : ℕ) → j < 64 → is_op_index (data_of_number j) ≡ true
unfolding is_op_index
is_op_index-written j l = let low : nat_lt j 64 ≡ true = grind (arith, nat_tests) in
    rw (whole-fits (2 ^ 64) j (omega arith), low) refl

outcome-values : (vs : List (Option ℤ)) → length vs ≤ 64 → All FitsOptional vs
    → is_outcome (string (codes "ok")) (array_of (map data_of_value vs)) ≡ true
unfolding is_outcome
outcome-values vs few held = rw (is_value_list-written vs few held) refl

outcome-abort : (j : ℕ) → j < 64 → is_outcome (string (codes "abort")) (data_of_number j) ≡ true
unfolding is_outcome
outcome-abort j l = rw (is_op_index-written j l) refl

form_of-reply : (x : Id) (y : Reply) → FitsNumbers x → FitsReply y
    → form_of (array_of (reply_data x y)) ≡ Some (line.Reply x)
unfolding form_of id_line_of
form_of-reply x (Values vs) h f =
    rw (outcome-values vs f.0 f.1, whole-fits 256 x.replica h.0, whole-fits (2 ^ 64) x.number h.1)
    refl
form_of-reply x (Abort j) h f =
    rw (outcome-abort j f, whole-fits 256 x.replica h.0, whole-fits (2 ^ 64) x.number h.1) refl

length-held : (o : Option ℤ) → FitsOptional o → length (compact_text (data_of_value o)) ≤ 20
length-held None h = omega arith
length-held (Some v) h = (IsWritableValue-from_range v h).short

length-held_list : (later : Bool) (vs : List (Option ℤ)) → All FitsOptional vs
    → length (items_text later (items_of (map data_of_value vs))) ≤ 21 * length vs + 1
length-held_list later [] h = omega arith
length-held_list true (v ∷ vs) h =
    omega (
      arith,
      length-held v (h 0 v (omega arith)),
      length-append (compact_text (data_of_value v))
          (items_text true (items_of (map data_of_value vs))),
      length-held_list true vs (λ k d l. h (suc k) d (omega arith)),
    )
length-held_list false (v ∷ vs) h =
    omega (
      arith,
      length-held v (h 0 v (omega arith)),
      length-append (compact_text (data_of_value v))
          (items_text true (items_of (map data_of_value vs))),
      length-held_list true vs (λ k d l. h (suc k) d (omega arith)),
    )

depth-held_list : (vs : List (Option ℤ)) → items_depth (items_of (map data_of_value vs)) ≤ 0
depth-held_list [] = omega arith
depth-held_list (None ∷ vs) = omega (arith, depth-held_list vs)
depth-held_list (Some v ∷ vs) = omega (arith, depth-held_list vs)

length-reply : (x : Id) (y : Reply) → FitsNumbers x → FitsReply y
    → length (compact_text (array_of (reply_data x y))) ≤ max_line_bytes
unfolding escape_byte
length-reply x (Values vs) h f =
    let list = compact_text (array_of (map data_of_value vs)) in
    let third = quoted (codes "ok") ++ 44 ∷ (list ++ 93 ∷ []) in
    omega (
      arith,
      length-number x.replica (omega (arith, h.0)),
      length-number x.number h.1,
      f.0,
      length-held_list false vs f.1,
      length-append (decimal x.replica) (44 ∷ (decimal x.number ++ 44 ∷ third)),
      length-append (decimal x.number) (44 ∷ third),
      length-append list (93 ∷ []),
    )
length-reply x (Abort j) h f =
    let third = quoted (codes "abort") ++ 44 ∷ (decimal j ++ 93 ∷ []) in
    omega (
      arith,
      length-number x.replica (omega (arith, h.0)),
      length-number x.number h.1,
      length-number j (omega (arith, f)),
      length-append (decimal x.replica) (44 ∷ (decimal x.number ++ 44 ∷ third)),
      length-append (decimal x.number) (44 ∷ third),
      length-append (decimal j) (93 ∷ []),
    )

pub IsPlain-reply : (x : Id) (y : Reply) → FitsNumbers x → FitsReply y
    → IsPlain (array_of (reply_data x y))
IsPlain-reply x (Values vs) h f = (
  plain_name (codes "reply") refl,
  (
    plain_number x.replica (omega (arith, h.0)),
    (plain_number x.number h.1, (plain_name (codes "ok") refl, (plain_values vs f.1, tt))),
  ),
)
IsPlain-reply x (Abort j) h f = (
  plain_name (codes "reply") refl,
  (
    plain_number x.replica (omega (arith, h.0)),
    (
      plain_number x.number h.1,
      (plain_name (codes "abort") refl, (plain_number j (omega (arith, f)), tt)),
    ),
  ),
)

depth-reply : (x : Id) (y : Reply) → depth (array_of (reply_data x y)) ≤ max_depth
depth-reply x (Values vs) = omega (arith, depth-held_list vs)
depth-reply x (Abort j) = omega arith

pub base_line_of-reply : (x : Id) (y : Reply) → FitsNumbers x → FitsReply y
    → base_line_of (compact_text (array_of (reply_data x y))) ≡ Some (line.Reply x)
base_line_of-reply x y h f = base_line_of-written (array_of (reply_data x y)) _
    (IsPlain-reply x y h f) (depth-reply x y) (length-reply x y h f) (form_of-reply x y h f)

pub IsPlain-done : (x : Id) → FitsNumbers x → IsPlain (array_of (done_data x))
IsPlain-done x h = (
  plain_name (codes "done") refl,
  (plain_number x.replica (omega (arith, h.0)), (plain_number x.number h.1, tt)),
)

pub base_line_of-done : (x : Id) → FitsNumbers x
    → base_line_of (compact_text (array_of (done_data x))) ≡ Some (line.Done x)
base_line_of-done x h =
    base_line_of-written (array_of (done_data x)) _ (IsPlain-done x h) (omega arith)
    (length-done x h) (form_of-done x h)
