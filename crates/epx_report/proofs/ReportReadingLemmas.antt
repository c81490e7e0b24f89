-- Reading the text of a report yields what its lines say.
use Rattle.std.proofs.Common.{◌≡◌, ℕ, suc, ℤ, true, List, [], ◌∷◌, ◌++◌, length, map, flat_map, All}
use Rattle.std.proofs.Common.{IsUtf8, Some, refl, sym, ap, ap₂, ◌∙◌, arith, append_assoc}
use Rattle.std.proofs.Common.{append-nil}
use Rattle.epx_types.proofs.Common.{map-append, w64, Waiting, FitsKey}
use Rattle.epx_types.specs.declared.id.Id.{Id}
use Rattle.epx_types.specs.declared.reply.Reply.{Reply}
use Rattle.std.specs.Int.RustNames.{FitsSigned}
use Rattle.serde_json.specs.Data.{Data}
use Rattle.serde_json.specs.Written.{compact_text}
use Rattle.epx_lines.specs.Lines.{lines_of}
use Rattle.epx_report.specs.declared.from_value.Counts.{Counts}
use Rattle.epx_report.specs.declared.from_value.BaseLine.{BaseLine}
use Rattle.epx_report.specs.declared.from_value.BaseLine.TheVariants as line
use Rattle.epx_report.specs.Forms.{base_line_of}
use Rattle.epx_report.specs.Bases.{lines_in_order}
use Rattle.epx_report.specs.ReportLines.{array_of, header_data, done_data, reply_data}
use Rattle.epx_report.specs.ReportLines.{waiting_data, store_data, done_line, reply_line}
use Rattle.epx_report.specs.ReportLines.{waiting_line, store_line}
use Rattle.epx_report.specs.ReportReadings.{ReportData, text_of_report, parts_of_report}
use Rattle.epx_report.specs.ReportReadings.{FitsNumbers, FitsReply, FitsReportData}
use Rattle.epx_report.specs.ReportReadings.{ReportIsReadAsItSays}
use Rattle.epx_report.proofs.LineFeedLemmas.{is_unbroken, lines_of-unbroken, lines_of-each}
use Rattle.epx_report.proofs.WrittenDataLemmas.{IsPlain, is_unbroken-compact_text}
use Rattle.epx_report.proofs.ReportFormLemmas.{IsPlain-header, IsPlain-done, IsPlain-reply}
use Rattle.epx_report.proofs.ReportFormLemmas.{IsPlain-waiting, IsPlain-store, base_line_of-header}
use Rattle.epx_report.proofs.ReportFormLemmas.{base_line_of-done, base_line_of-reply}
use Rattle.epx_report.proofs.ReportFormLemmas.{base_line_of-waiting, base_line_of-store}

-- ---- blocks of lines

-- each item is written as a line that says this
module _ {X : Type 0} (text : X → List ℕ) (says : X → BaseLine) where
  says-each : (xs : List X) → All (λ x. base_line_of (text x) ≡ Some (says x)) xs
      → map base_line_of (map text xs) ≡ map Some (map says xs)
  says-each [] h = refl
  says-each (x ∷ xs) h = ap₂ (λ l ls. l ∷ ls) (h 0 x (omega arith))
      (says-each xs (λ k d l. h (suc k) d (omega arith)))

  -- the lines of the items, in front of other lines, say what the items say and then what those do
  says-before : (xs : List X) (texts : List (List ℕ)) (ls : List BaseLine)
      → All (λ x. base_line_of (text x) ≡ Some (says x)) xs → map base_line_of texts ≡ map Some ls
      → map base_line_of (map text xs ++ texts) ≡ map Some (map says xs ++ ls)
  says-before xs texts ls h rest =
      map-append base_line_of (map text xs) texts ∙ ap₂ (λ a b. a ++ b) (says-each xs h) rest
      ∙ sym (map-append Some (map says xs) ls)

All-weaker : {X : Type 0} {P Q : X → Type 0} → ((x : X) → P x → Q x) → (xs : List X) → All P xs
    → All Q xs
All-weaker f [] h = λ k d l. absurd (omega arith)
All-weaker f (x ∷ xs) h = λ k d l. f _ (h k d l)

-- ---- the kinds of lines

abbrev text_of : List Data → List ℕ
text_of ds = compact_text (array_of ds)

unbroken : (ds : List Data) → IsPlain (array_of ds) → is_unbroken (text_of ds) ≡ true
unbroken ds h = is_unbroken-compact_text (array_of ds) h

-- what the lines of a report say
abbrev said : ReportData → List BaseLine
said r =
    line.Header (record { executed = length r.replies; waiting = length r.waiting })
    ∷ (map line.Done r.done
    ++ (map (λ p. line.Reply p.0) r.replies
    ++ (map (λ w. line.Waiting w.id) r.waiting ++ map (λ p. line.Store p.0 p.1) r.stored)))

module _ (r : ReportData) (h : FitsReportData r) where
  header_text : List ℕ
  header_text = text_of (header_data (length r.replies) (length r.waiting) r.components)

  texts : List (List ℕ)
  texts =
      header_text
      ∷ (map (λ x. text_of (done_data x)) r.done
      ++ (map (λ p. text_of (reply_data p.0 p.1)) r.replies
      ++ (map (λ w. text_of (waiting_data w)) r.waiting
      ++ (map (λ p. text_of (store_data p)) r.stored ++ []))))

  lines_of-reported : lines_of (text_of_report r) ≡ texts
  unfolding texts header_text
  lines_of-reported =
      let stored = flat_map store_line r.stored in
      let waiting = flat_map waiting_line r.waiting ++ stored in
      let replies = flat_map reply_line r.replies ++ waiting in
      let all_done = lines_of-each (λ x. text_of (done_data x)) r.done replies
      (All-weaker (λ x f. unbroken (done_data x) (IsPlain-done x f)) r.done h.done_fit) in
      let all_replies = lines_of-each (λ p. text_of (reply_data p.0 p.1)) r.replies waiting
      (All-weaker (λ (p : Id × Reply) (f : FitsNumbers p.0 × FitsReply p.1).
      unbroken (reply_data p.0 p.1) (IsPlain-reply p.0 p.1 f.0 f.1)) r.replies h.replies_fit) in
      let all_waiting = lines_of-each (λ w. text_of (waiting_data w)) r.waiting stored
      (All-weaker (λ (w : Waiting) (f : FitsNumbers w.id × FitsNumbers w.missing).
      unbroken (waiting_data w) (IsPlain-waiting w f.0 f.1)) r.waiting h.waiting_fit) in
      let all_stored = lines_of-each (λ p. text_of (store_data p)) r.stored []
      (All-weaker (λ (p : List ℕ × ℤ) (f : FitsKey p.0 × IsUtf8 p.0 × FitsSigned w64 p.1).
      unbroken (store_data p) (IsPlain-store p.0 p.1 f.1 f.2)) r.stored h.stored_fit) in
      let header = unbroken (header_data (length r.replies) (length r.waiting) r.components)
      (IsPlain-header (length r.replies) (length r.waiting) r.components h.replies_counted
      h.waiting_counted (omega (arith, h.few_components, h.replies_counted))) in
      ap lines_of
      (append_assoc (text_of (header_data (length r.replies) (length r.waiting) r.components))
      (10 ∷ []) (flat_map done_line r.done ++ replies))
      ∙ lines_of-unbroken
      (text_of (header_data (length r.replies) (length r.waiting) r.components))
      (flat_map done_line r.done ++ replies) header
      ∙ ap (λ ls. text_of (header_data (length r.replies) (length r.waiting) r.components) ∷ ls)
      (all_done ∙ ap (λ ls. map (λ x. text_of (done_data x)) r.done ++ ls)
      (all_replies ∙ ap (λ ls. map (λ p. text_of (reply_data p.0 p.1)) r.replies ++ ls)
      (all_waiting ∙ ap (λ ls. map (λ w. text_of (waiting_data w)) r.waiting ++ ls)
      (ap lines_of (sym (append-nil stored)) ∙ all_stored))))

  texts_say : map base_line_of texts ≡ map Some (said r)
  unfolding texts header_text
  texts_say =
      let stored = says-before (λ p. text_of (store_data p)) (λ p. line.Store p.0 p.1) r.stored []
      [] (All-weaker (λ (p : List ℕ × ℤ) (f : FitsKey p.0 × IsUtf8 p.0 × FitsSigned w64 p.1).
      base_line_of-store p.0 p.1 f.0 f.1 f.2) r.stored h.stored_fit) refl in
      let waiting = says-before (λ w. text_of (waiting_data w)) (λ w. line.Waiting w.id) r.waiting
      _ _ (All-weaker (λ (w : Waiting) (f : FitsNumbers w.id × FitsNumbers w.missing).
      base_line_of-waiting w f.0 f.1) r.waiting h.waiting_fit)
      (stored ∙ ap (map Some) (append-nil _)) in
      let replies = says-before (λ p. text_of (reply_data p.0 p.1)) (λ p. line.Reply p.0) r.replies
      _ _ (All-weaker (λ (p : Id × Reply) (f : FitsNumbers p.0 × FitsReply p.1).
      base_line_of-reply p.0 p.1 f.0 f.1) r.replies h.replies_fit) waiting in
      let done = says-before (λ x. text_of (done_data x)) line.Done r.done _ _
      (All-weaker (λ x f. base_line_of-done x f) r.done h.done_fit) replies in
      ap₂ (λ l ls. l ∷ ls) (base_line_of-header (length r.replies) (length r.waiting) r.components
      h.replies_counted h.waiting_counted h.few_components) done

map_named : {X Y Z : Type 0} (name : X → Y) (says : Y → Z) (xs : List X)
    → map (λ x. says (name x)) xs ≡ map says (map name xs)
map_named name says [] = refl
map_named name says (x ∷ xs) = ap (λ ls. says (name x) ∷ ls) (map_named name says xs)

said_in_order : (r : ReportData) → said r ≡ lines_in_order (parts_of_report r)
said_in_order r =
    let stored = map (λ (p : List ℕ × ℤ). line.Store p.0 p.1) r.stored in
    let header : Counts = record { executed = length r.replies; waiting = length r.waiting } in
    ap (λ ls. line.Header header ∷ (map line.Done r.done ++ ls))
    (ap₂ (λ a b. a ++ b) (map_named (λ (p : Id × Reply). p.0) line.Reply r.replies)
    (ap (λ a. a ++ stored) (map_named (λ (w : Waiting). w.id) line.Waiting r.waiting)))

pub ReportIsReadAsItSays-holds : ReportIsReadAsItSays
ReportIsReadAsItSays-holds r h =
    ap (map base_line_of) (lines_of-reported r h)
    ∙ (texts_say r h ∙ ap (map Some) (said_in_order r))
