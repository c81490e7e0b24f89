-- The text of replies and a store is read as these replies and this store.
use Rattle.std.proofs.Common.{◌≡◌, ℕ, suc, ◌^◌, ◌<◌, ◌≤◌, ℤ, Bool, true, false, nat_lt}
use Rattle.std.proofs.Common.{List, [], ◌∷◌, ◌++◌, length, map, flat_map, All, Option, Some, None}
use Rattle.std.proofs.Common.{IsUtf8, is_some, option_map, option_and_then, if◌then◌else◌, refl}
use Rattle.std.proofs.Common.{sym, ap, ap₂, ◌∙◌, arith, append-nil}
use Rattle.std.specs.FinMap as contents
use Rattle.std.specs.Int.RustNames.{FitsSigned}
use Rattle.epx_types.proofs.Common.{nat_tests, w64, FitsKey, Contents, map-append}
use Rattle.epx_types.specs.declared.id.Id.{Id}
use Rattle.epx_types.specs.declared.reply.Reply.{Reply}
use Rattle.epx_types.specs.declared.reply.Reply.TheVariants.{Values, Abort}
use Rattle.serde_json.specs.Data.{Data, null, depth, items_depth}
use Rattle.serde_json.specs.Read.{max_depth}
use Rattle.serde_json.specs.View.{items_of}
use Rattle.serde_json.specs.Written.{compact_text}
use Rattle.epx_lines.specs.Elements.{list_of, every}
use Rattle.epx_lines.specs.Lines.{lines_of}
use Rattle.epx_lines.specs.Meaning.{max_line_bytes, json_of}
use Rattle.epx_lines.specs.OperationList.{value_or_null}
use Rattle.epx_lines.specs.Text.{data_of_value}
use Rattle.epx_lines.proofs.ElementLemmas.{at_most-within}
use Rattle.epx_lines.proofs.WrittenPartLemmas.{whole-fits, key_of-fits, IsWritableValue-from_range}
use Rattle.epx_report.specs.Forms.{form_of, base_line_of}
use Rattle.epx_report.specs.ReportLines.{array_of, data_of_number, reply_data, store_data}
use Rattle.epx_report.specs.ReportLines.{store_line}
use Rattle.epx_report.specs.ReportReadings.{FitsNumbers, FitsOptional, FitsReply}
use Rattle.epx_report.proofs.LineFeedLemmas.{lines_of-each}
use Rattle.epx_report.proofs.WrittenDataLemmas.{IsPlain, is_unbroken-compact_text}
use Rattle.epx_report.proofs.WrittenDataLemmas.{json_of-compact_text}
use Rattle.epx_report.proofs.ReportFormLemmas.{IsPlain-reply, IsPlain-store, base_line_of-reply}
use Rattle.epx_report.proofs.ReportFormLemmas.{base_line_of-store}
use Rattle.epx_verify.specs.declared.said_line.SaidLine.{SaidLine}
use Rattle.epx_verify.specs.declared.said_line.SaidLine.TheVariants.{Replied, Stored}
use Rattle.epx_verify.specs.SaidLines.{values_of, op_index_of, reply_of, replied_of, stored_of}
use Rattle.epx_verify.specs.SaidLines.{said_by, said_line_of}
use Rattle.epx_verify.specs.SaidTexts.{lines_said}
use Rattle.epx_verify.specs.ListExecutions.{said_text}
use Rattle.epx_verify.specs.VerifyLaws.{FitSaidText, SaidTextIsSaid}

-- ---- a line of a base is short enough

short_at : {L : Type 0} (long : Bool) (o : Option L) → is_some (if long then None else o) ≡ true
    → long ≡ false
short_at true o e = absurd (cc e)
short_at false o e = refl

short : (text : List ℕ) → is_some (base_line_of text) ≡ true
    → nat_lt max_line_bytes (length text) ≡ false
unfolding base_line_of
short text e = short_at (nat_lt max_line_bytes (length text))
    (option_and_then form_of (json_of text)) e

-- a plain value that is written as a line of a base says what its value says
said_line_of-written : (d : Data) (l : SaidLine) → IsPlain d → depth d ≤ max_depth
    → is_some (base_line_of (compact_text d)) ≡ true → said_by d ≡ Some l
    → said_line_of (compact_text d) ≡ Some l
unfolding said_line_of
said_line_of-written d l plain shallow is_base says =
    rw (short (compact_text d) is_base, json_of-compact_text d plain shallow) says

-- ---- values

value-written : (v : ℤ) → FitsSigned w64 v → value_or_null (data_of_value (Some v)) ≡ Some (Some v)
unfolding value_or_null
value-written v h = ap (option_map Some) (IsWritableValue-from_range v h).reads

value-null : value_or_null null ≡ Some None
unfolding value_or_null
value-null = refl

every-written : (vs : List (Option ℤ)) → All FitsOptional vs
    → every value_or_null (list_of (items_of (map data_of_value vs))) ≡ Some vs
every-written [] h = refl
every-written (None ∷ vs) h =
    rw (value-null, every-written vs (λ k d l. h (suc k) d (omega arith))) refl
every-written (Some v ∷ vs) h =
    rw (
      value-written v (h 0 (Some v) (omega arith)),
      every-written vs (λ k d l. h (suc k) d (omega arith)),
    ) refl

length-values : (vs : List (Option ℤ))
    → length (list_of (items_of (map data_of_value vs))) ≡ length vs
length-values [] = refl
length-values (v ∷ vs) = ap suc (length-values vs)

values_of-written : (vs : List (Option ℤ)) → length vs ≤ 64 → All FitsOptional vs
    → values_of (array_of (map data_of_value vs)) ≡ Some vs
unfolding values_of
values_of-written vs few held =
    let ds = list_of (items_of (map data_of_value vs)) in
    let within : length ds ≤ 64 = omega (arith, length-values vs, few) in
    ap (option_and_then (every value_or_null)) (at_most-within 64 ds within) ∙ every-written vs held

depth-values : (vs : List (Option ℤ)) → items_depth (items_of (map data_of_value vs)) ≤ 0
depth-values [] = omega arith
depth-values (None ∷ vs) = omega (arith, depth-values vs)
depth-values (Some v ∷ vs) = omega (arith, depth-values vs)

-- ---- reply lines

op_index_of-written : (j : ℕ) → j < 64 → op_index_of (data_of_number j) ≡ Some j
unfolding op_index_of
op_index_of-written j l = let low : nat_lt j 64 ≡ true = grind (arith, nat_tests) in
    rw (whole-fits (2 ^ 64) j (omega arith), low) refl

said_by-reply : (x : Id) (y : Reply) → FitsNumbers x → FitsReply y
    → said_by (array_of (reply_data x y)) ≡ Some (Replied x y)
unfolding said_by replied_of reply_of
said_by-reply x (Values vs) h f =
    rw (
      values_of-written vs f.0 f.1,
      whole-fits 256 x.replica h.0,
      whole-fits (2 ^ 64) x.number h.1,
    ) refl
said_by-reply x (Abort j) h f =
    rw (
      op_index_of-written j f,
      whole-fits 256 x.replica h.0,
      whole-fits (2 ^ 64) x.number h.1,
    ) refl

depth-reply : (x : Id) (y : Reply) → depth (array_of (reply_data x y)) ≤ max_depth
depth-reply x (Values vs) = omega (arith, depth-values vs)
depth-reply x (Abort j) = omega arith

abbrev reply_text : Id × Reply → List ℕ
reply_text p = compact_text (array_of (reply_data p.0 p.1))

reply_is_said : (p : Id × Reply) → FitsNumbers p.0 × FitsReply p.1
    → said_line_of (reply_text p) ≡ Some (Replied p.0 p.1)
reply_is_said p h = said_line_of-written (array_of (reply_data p.0 p.1)) _
    (IsPlain-reply p.0 p.1 h.0 h.1) (depth-reply p.0 p.1)
    (ap is_some (base_line_of-reply p.0 p.1 h.0 h.1))
    (said_by-reply p.0 p.1 h.0 h.1)

-- ---- store lines

said_by-store : (k : List ℕ) (v : ℤ) → FitsKey k → FitsSigned w64 v
    → said_by (array_of (store_data (k, v))) ≡ Some (Stored k v)
unfolding said_by stored_of
said_by-store k v key fits = rw (key_of-fits k key)
    (ap (option_map (Stored k)) (IsWritableValue-from_range v fits).reads)

abbrev store_text : List ℕ × ℤ → List ℕ
store_text e = compact_text (array_of (store_data e))

store_is_said : (e : List ℕ × ℤ) → FitsKey e.0 × IsUtf8 e.0 × FitsSigned w64 e.1
    → said_line_of (store_text e) ≡ Some (Stored e.0 e.1)
store_is_said e h = said_line_of-written (array_of (store_data e)) _
    (IsPlain-store e.0 e.1 h.1 h.2) (omega arith)
    (ap is_some (base_line_of-store e.0 e.1 h.0 h.1 h.2))
    (said_by-store e.0 e.1 h.0 h.2)

-- ---- the text

All-weaker : {X : Type 0} {P Q : X → Type 0} → ((x : X) → P x → Q x) → (xs : List X) → All P xs
    → All Q xs
All-weaker f [] h = λ k d l. absurd (omega arith)
All-weaker f (x ∷ xs) h = λ k d l. f _ (h k d l)

-- each item is written as a line that says this
says-each : {X : Type 0} (text : X → List ℕ) (says : X → SaidLine) (xs : List X)
    → All (λ x. said_line_of (text x) ≡ Some (says x)) xs
    → map said_line_of (map text xs) ≡ map Some (map says xs)
says-each text says [] h = refl
says-each text says (x ∷ xs) h = ap₂ (λ l ls. l ∷ ls) (h 0 x (omega arith))
    (says-each text says xs (λ k d l. h (suc k) d (omega arith)))

module _ (replies : List (Id × Reply)) (held : Contents) (h : FitSaidText replies held) where
  values : List (List ℕ × ℤ)
  values = contents.entries held

  lines_of-said : lines_of (said_text replies held)
      ≡ map reply_text replies ++ map store_text values
  unfolding values
  lines_of-said =
      let rest = flat_map store_line values in
      let all_replies = lines_of-each reply_text replies rest
      (All-weaker (λ (p : Id × Reply) (f : FitsNumbers p.0 × FitsReply p.1).
      is_unbroken-compact_text (array_of (reply_data p.0 p.1)) (IsPlain-reply p.0 p.1 f.0 f.1))
      replies h.replies_fit) in
      let all_stored = lines_of-each store_text values []
      (All-weaker (λ (e : List ℕ × ℤ) (f : FitsKey e.0 × IsUtf8 e.0 × FitsSigned w64 e.1).
      is_unbroken-compact_text (array_of (store_data e)) (IsPlain-store e.0 e.1 f.1 f.2))
      values h.stored_fit) in
      all_replies ∙ ap (λ ls. map reply_text replies ++ ls)
      (ap lines_of (sym (append-nil rest)) ∙ all_stored ∙ append-nil (map store_text values))

  all_said : map said_line_of (map reply_text replies ++ map store_text values)
      ≡ map Some (lines_said replies held)
  unfolding values
  all_said =
      map-append said_line_of (map reply_text replies) (map store_text values)
      ∙ ap₂ (λ a b. a ++ b)
      (says-each reply_text (λ p. Replied p.0 p.1) replies
      (All-weaker reply_is_said replies h.replies_fit))
      (says-each store_text (λ e. Stored e.0 e.1) values
      (All-weaker store_is_said values h.stored_fit))
      ∙ sym (map-append Some (map (λ p. Replied p.0 p.1) replies)
      (map (λ e. Stored e.0 e.1) values))

pub SaidTextIsSaid-holds : SaidTextIsSaid
SaidTextIsSaid-holds replies held h =
    ap (map said_line_of) (lines_of-said replies held h) ∙ all_said replies held h
