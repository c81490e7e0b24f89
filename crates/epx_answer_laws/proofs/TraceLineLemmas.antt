-- The report's store line of a key has what the last write line of the key's trace ends with.
use Rattle.std.proofs.Common.{◌≡◌, ◌∙◌, ◌<◌, ◌≤◌, ◌^◌, ◌++◌, ℕ, ℤ, w64, List, [], ◌∷◌, flat_map}
use Rattle.std.proofs.Common.{map, fold, Bool, true, false, Option, Some, None, codes, unwrap_or}
use Rattle.std.proofs.Common.{refl, sym, ap, option_map, append_assoc, subst, arith, inl, inr}
use Rattle.std.proofs.Common.{Contains, FitsSigned}
use Rattle.epx_types.proofs.Common.{cases_Bool, AllByRecursion, command_on, touched_keys}
use Rattle.epx_types.proofs.Common.{commands_in, Contents, remaining, execute, IsExecutionOrder}
use Rattle.epx_types.proofs.Common.{ranked_ids, Instance, IsReady, Contains-from_map}
use Rattle.epx_types.proofs.Common.{IsExecutionOrder-IsLawful, remaining-nil}
use Rattle.epx_types.specs.declared.id.Id.{Id}
use Rattle.epx_types.specs.declared.op.Op.{Op}
use Rattle.std.specs.FinMap as contents
use Rattle.json.proofs.Printed.Utf8.{IsUtf8-are_ascii}
use Rattle.serde_json.specs.Data.{Data, depth}
use Rattle.serde_json.specs.Written.{compact_text}
use Rattle.epx_lines.specs.Lines.{lines_of}
use Rattle.epx_lines.specs.OperationList.{value_or_null}
use Rattle.epx_lines.specs.Text.{data_of_value}
use Rattle.epx_lines.proofs.WrittenPartLemmas.{IsWritableValue-from_range}
use Rattle.epx_report.specs.ReportLines.{array_of, data_of_number, line_of}
use Rattle.epx_report.specs.ReportReadings.{FitsNumbers, FitsOptional}
use Rattle.epx_report.proofs.BaseLemmas.{BaseSaysOneThing-holds}
use Rattle.epx_report.proofs.BaseRangeLemmas.{FitsContents, FitsContents-empty}
use Rattle.epx_report.proofs.ExecutionRangeLemmas.{FitsExecution-execute}
use Rattle.epx_report.proofs.LineFeedLemmas.{lines_of-unbroken}
use Rattle.epx_report.proofs.LineRangeLemmas.{FitsCommand, FitsInstance}
use Rattle.epx_report.proofs.WrittenDataLemmas.{IsPlain, IsWritable-unsigned, IsWritable-of_integer}
use Rattle.epx_report.proofs.WrittenDataLemmas.{json_of-compact_text, is_unbroken-compact_text}
use Rattle.epx_trace.specs.declared.touch.Touch.{Touch}
use Rattle.epx_trace.specs.declared.touch.Touch.TheVariants.{Write, Read}
use Rattle.epx_trace.specs.Traces.{IdCommand, has_key, trace_of, touch_of, writes_key}
use Rattle.epx_trace.specs.TraceLaws.{value_left}
use Rattle.epx_trace.specs.TraceLines.{read_data, touch_line, write_data}
use Rattle.epx_trace.specs.TraceTexts.{command_of, ordered_commands}
use Rattle.epx_answer_laws.specs.TraceReportLaws.{LastWriteLineIsTheStoreLine, value_after_line}
use Rattle.epx_answer_laws.specs.TraceReportLaws.{written_of}
use Rattle.epx_tool.proofs.ReportRangeLemmas.{FitsInstance-accepted, FitsCommand-instance_of}
use Rattle.epx_tool.proofs.ReportRangeLemmas.{AllByRecursion-each}
use Rattle.epx_tool.proofs.ResumableAnswersLemmas.{AnswerIsBase-holds}
use Rattle.epx_answer_laws.proofs.TraceReportLemmas.{execute-final_of_trace}

-- ---- the lines of a trace are read as they were written

-- the Id and the values of a touch are within their limits
FitsTouch : Touch → Type 0
FitsTouch (Write x before after) = FitsNumbers x × FitsOptional before × FitsOptional after
FitsTouch (Read x value) = FitsNumbers x × FitsOptional value

plain_number : (n : ℕ) → n < 2 ^ 64 → IsPlain (data_of_number n)
plain_number n l = IsWritable-unsigned n l

plain_value : (o : Option ℤ) → FitsOptional o → IsPlain (data_of_value o)
plain_value None h = tt
plain_value (Some v) h = IsWritable-of_integer v h

flat_value : (o : Option ℤ) → depth (data_of_value o) ≤ 0
flat_value None = omega arith
flat_value (Some v) = omega arith

plain_write : (x : Id) (before after : Option ℤ) → FitsNumbers x → FitsOptional before
    → FitsOptional after → IsPlain (array_of (write_data x before after))
plain_write x before after id b a = (
  IsUtf8-are_ascii (codes "write") refl,
  (
    plain_number x.replica (omega (arith, id.0)),
    (plain_number x.number id.1, (plain_value before b, (plain_value after a, tt))),
  ),
)

plain_read : (x : Id) (value : Option ℤ) → FitsNumbers x → FitsOptional value
    → IsPlain (array_of (read_data x value))
plain_read x value id v = (
  IsUtf8-are_ascii (codes "read") refl,
  (
    plain_number x.replica (omega (arith, id.0)),
    (plain_number x.number id.1, (plain_value value v, tt)),
  ),
)

value_or_null-written : (o : Option ℤ) → FitsOptional o → value_or_null (data_of_value o) ≡ Some o
unfolding value_or_null
value_or_null-written None h = refl
value_or_null-written (Some v) h = ap (option_map Some) (IsWritableValue-from_range v h).reads

written_of-write : (x : Id) (before after : Option ℤ) → FitsNumbers x → FitsOptional before
    → FitsOptional after
    → written_of (compact_text (array_of (write_data x before after))) ≡ Some after
written_of-write x before after id b a =
    rw (json_of-compact_text (array_of (write_data x before after))
    (plain_write x before after id b a) (omega (arith, flat_value before, flat_value after)))
    (value_or_null-written after a)

written_of-read : (x : Id) (value : Option ℤ) → FitsNumbers x → FitsOptional value
    → written_of (compact_text (array_of (read_data x value))) ≡ None
written_of-read x value id v =
    rw (json_of-compact_text (array_of (read_data x value)) (plain_read x value id v)
    (omega (arith, flat_value value)))
    refl

-- a text that begins with a line
lines_of-line : (ds : List Data) (rest : List ℕ) → IsPlain (array_of ds)
    → lines_of (line_of ds ++ rest) ≡ compact_text (array_of ds) ∷ lines_of rest
lines_of-line ds rest plain =
    ap lines_of (append_assoc (compact_text (array_of ds)) (10 ∷ []) rest)
    ∙ lines_of-unbroken (compact_text (array_of ds)) rest
    (is_unbroken-compact_text (array_of ds) plain)

-- the lines leave the value that the touches leave
lines_leave : (reads : Bool) (touches : List Touch) → AllByRecursion FitsTouch touches
    → (value : Option ℤ)
    → fold value_after_line value (lines_of (flat_map (touch_line reads) touches))
    ≡ fold value_left value touches
unfolding FitsTouch
lines_leave reads [] h value = refl
lines_leave reads (Write x before after ∷ touches) h value =
    let rest = flat_map (touch_line reads) touches in
    let plain = plain_write x before after h.0.0 h.0.1 h.0.2 in
    ap (λ ls. fold value_after_line value ls) (lines_of-line (write_data x before after) rest plain)
    ∙ ap (λ o. fold value_after_line (unwrap_or o value) (lines_of rest))
    (written_of-write x before after h.0.0 h.0.1 h.0.2)
    ∙ lines_leave reads touches h.1 after
lines_leave true (Read x found ∷ touches) h value =
    let rest = flat_map (touch_line true) touches in
    let plain = plain_read x found h.0.0 h.0.1 in
    ap (λ ls. fold value_after_line value ls) (lines_of-line (read_data x found) rest plain)
    ∙ ap (λ o. fold value_after_line (unwrap_or o value) (lines_of rest))
    (written_of-read x found h.0.0 h.0.1)
    ∙ lines_leave true touches h.1 value
lines_leave false (Read x found ∷ touches) h value = lines_leave false touches h.1 value

-- ---- the touches of accepted logs

FitsIdCommand : IdCommand → Type 0
FitsIdCommand p = FitsNumbers p.0 × FitsCommand p.1

found_fits : (c : Contents) (k : List ℕ) → FitsContents c → FitsOptional (contents.get c k)
found_fits c k h = go (contents.get c k) (λ v e. (h k v e).1)
  where
    go : (o : Option ℤ) → ((v : ℤ) → o ≡ Some v → FitsSigned w64 v) → FitsOptional o
    go None f = tt
    go (Some v) f = f v refl

after_fits : (ops : List Op) (c : Contents) → FitsCommand ops → FitsContents c
    → FitsContents (command_on ops c).after
after_fits ops c f h = (FitsExecution-execute (ops ∷ []) c (f, tt) h).final

touch_fits : (p : IdCommand) (c : Contents) (k : List ℕ) → FitsIdCommand p → FitsContents c
    → FitsTouch (touch_of p c k)
unfolding FitsTouch FitsIdCommand
touch_fits p c k f h =
    let before = found_fits c k h in
    let after = found_fits (command_on p.1 c).after k (after_fits p.1 c f.1 h) in
    elim (cases_Bool (writes_key p.1 c k)) [
      | inl w ↦ rw w (f.0, before, after)
      | inr r ↦ rw r (f.0, before)
    ]

trace_fits : (commands : List IdCommand) (c : Contents) (k : List ℕ)
    → AllByRecursion FitsIdCommand commands → FitsContents c
    → AllByRecursion FitsTouch (trace_of commands c k)
unfolding FitsIdCommand
trace_fits [] c k f h = tt
trace_fits (p ∷ rest) c k f h =
    let later = trace_fits rest (command_on p.1 c).after k f.1 (after_fits p.1 c f.0.1 h) in
    elim (cases_Bool (has_key (touched_keys p.1) k)) [
      | inl touched ↦ rw touched (touch_fits p c k f.0 h, later)
      | inr none ↦ rw none later
    ]

ordered_fit : (m : List Instance) → ((e : Instance) → Contains m e → FitsInstance e)
    → (ids : List Id) → ((x : Id) → Contains ids x → IsReady m x)
    → AllByRecursion FitsIdCommand (map (command_of m) ids)
unfolding FitsIdCommand
ordered_fit m fits ids ready =
    AllByRecursion-each FitsIdCommand (map (command_of m) ids) (λ p c.
    let x = Contains-from_map (command_of m) ids p c in
    let e = Contains-from_map (λ (e : Instance). e.id) m x.0 (ready x.0 x.1).committed in
    let id = subst FitsNumbers e.2 (fits e.0 e.1).id in
    subst FitsIdCommand x.2 (id, FitsCommand-instance_of m fits x.0))

-- ---- the law

pub LastWriteLineIsTheStoreLine-holds : LastWriteLineIsTheStoreLine
LastWriteLineIsTheStoreLine-holds logs key reads report trace answered traced done stored base =
    let m = traced.0 in
    let t = traced.2 in
    let k = key.text.bytes in
    let b = AnswerIsBase-holds logs report answered m traced.1 in
    let left = λ (l : List Instance).
    (execute (commands_in l (ranked_ids b.order)) contents.empty).final in
    let one = BaseSaysOneThing-holds report done b.now stored (left (remaining [] m)) base b.base in
    let whole = remaining-nil m in
    let ordered = subst (λ (l : List Instance). IsExecutionOrder l b.order) whole b.ordered in
    let ready = (IsExecutionOrder-IsLawful m t.order t.ordered).only in
    let commands =
    ordered_fit m (FitsInstance-accepted logs m traced.1) (ranked_ids t.order) ready in
    let touches = trace_of (ordered_commands m t.order) contents.empty k in
    let touches_fit =
    trace_fits (ordered_commands m t.order) contents.empty k commands FitsContents-empty in
    ap (λ (s : Contents). contents.get s k) one.1
    ∙ ap (λ (l : List Instance). contents.get (left l) k) whole
    ∙ execute-final_of_trace m k reads trace b.order ordered t
    ∙ sym (lines_leave reads touches touches_fit None)
    ∙ ap (λ text. fold value_after_line None (lines_of text)) (sym t.printed)
