-- A report is a base of the instances done after it and of its final store.
use Rattle.std.proofs.Common.{◌≡◌, ◌≢◌, ◌⊎◌, ◌↔◌, ◌++◌, ℕ, List, [], ◌∷◌, length, zip, flat_map}
use Rattle.std.proofs.Common.{Contains, AllPairs, refl, sym, ap, ◌∙◌, subst, arith}
use Rattle.std.specs.FinMap as contents
use Rattle.epx_types.proofs.Common.{length-map, IsRising, Contents, Instance, instance_of}
use Rattle.epx_types.proofs.Common.{ops_or_empty, commands_in, remaining, execute, Execution}
use Rattle.epx_types.proofs.Common.{Ranked, IsExecutionOrder, ranked_ids, component_count, Waiting}
use Rattle.epx_types.proofs.Common.{IsWaitingList, waiting_ids, Contains-remaining_iff}
use Rattle.epx_types.proofs.Common.{remaining-nil, IsExecutionOrder-IsLawful, length-replies}
use Rattle.epx_types.proofs.Common.{Contains-from_map}
use Rattle.epx_types.specs.declared.id.Id.{Id}
use Rattle.epx_types.specs.declared.reply.Reply.{Reply}
use Rattle.epx_report.specs.Bases.{IsBase}
use Rattle.epx_report.specs.ReportLines.{header_line, done_line, reply_line, waiting_line}
use Rattle.epx_report.specs.ReportLines.{store_line}
use Rattle.epx_report.specs.between.ReportBases.{AreLinesInOrder, AreDoneAfter}
use Rattle.epx_report.specs.ReportReadings.{ReportData, FitsReportData, replied_ids, text_of_report}
use Rattle.epx_report.proofs.ReportBaseLemmas.{ReportIsABase-holds}
use Rattle.epx_tool.specs.Report.{IsReport, report_text}
use Rattle.epx_tool.specs.ResumedReport.{IsReportAfter}
use Rattle.epx_tool.specs.ReportedRuns.{reported_of, run_in}
use Rattle.epx_tool.proofs.ReportLemmas.{Contains-not_done_yet}

pub IsReportAfter-nil : (m : List Instance) (text : List ℕ) → IsReport m text
    → IsReportAfter [] contents.empty m text
IsReportAfter-nil m text p =
    let whole = sym (remaining-nil m) in record {
      order = p.order;
      waiting = p.waiting;
      ordered = subst (λ (l : List Instance). IsExecutionOrder l p.order) whole p.ordered;
      listed = subst (λ (l : List Instance). IsWaitingList l p.waiting) whole p.listed;
      printed =
          p.printed ∙ ap (λ (l : List Instance). report_text p.order p.waiting
          (execute (commands_in l (ranked_ids p.order)) contents.empty)) whole;
    }

-- there are as many replies as instances
replied_ids-zip : (ids : List Id) (replies : List Reply) → length replies ≡ length ids
    → replied_ids (zip ids replies) ≡ ids
replied_ids-zip [] replies many = refl
replied_ids-zip (x ∷ ids) [] many = absurd (omega (arith, many))
replied_ids-zip (x ∷ ids) (r ∷ replies) many =
    ap (λ xs. x ∷ xs) (replied_ids-zip ids replies (omega (arith, many)))

module _ (done : List Id) (stored : Contents) (m : List Instance) (text : List ℕ)
    (p : IsReportAfter done stored m text) where
  abbrev pub run : Execution
  run = run_in done stored m text p

  abbrev pub written : ReportData
  written = reported_of done p.order p.waiting run

  as_many : length run.replies ≡ length (ranked_ids p.order)
  as_many =
      length-replies (commands_in (remaining done m) (ranked_ids p.order)) stored
      ∙ length-map (ranked_ids p.order) (λ x. ops_or_empty (instance_of (remaining done m) x))

  pub replied_ids-written : replied_ids written.replies ≡ ranked_ids p.order
  replied_ids-written = replied_ids-zip (ranked_ids p.order) run.replies as_many

  pub length-written : length written.replies ≡ length p.order
  length-written = sym (length-map written.replies (λ q. q.0)) ∙ ap length replied_ids-written
      ∙ length-map p.order (λ (r : Ranked). r.id)

  text_is : text ≡ text_of_report written
  text_is = p.printed ∙ ap (λ n. header_line n (length p.waiting) (component_count p.order)
      ++ (flat_map done_line done
      ++ (flat_map reply_line written.replies
      ++ (flat_map waiting_line p.waiting ++ flat_map store_line (contents.entries run.final)))))
      (sym length-written)

  -- an instance that waits is neither done nor executed
  still_waits : (x : Id) → Contains (waiting_ids p.waiting) x
      → (¬ Contains done x) × (¬ Contains (replied_ids written.replies) x)
  still_waits x h =
      let w = Contains-from_map (λ (w : Waiting). w.id) p.waiting x h in
      let waits = p.listed.waits w.0 w.1 in
      let left = ((Contains-remaining_iff done m w.0.id).0 waits.committed).1 in (
        subst (λ (y : Id). ¬ Contains done y) w.2 left,
        λ executed.
            let here = subst (λ (xs : List Id). Contains xs x) replied_ids-written executed in
            let ready = (IsExecutionOrder-IsLawful (remaining done m) p.order p.ordered).only x
            here in
            let again = subst (λ (y : Id). Contains (ranked_ids p.order) y) (sym w.2) here in
            waits.missing
            (((IsExecutionOrder-IsLawful (remaining done m) p.order p.ordered).only w.0.id
            again).complete w.0.missing waits.reached),
      )

  in_order : IsRising done → AreLinesInOrder written
  in_order rising = record {
    done_rise = rising;
    replied_once = subst (AllPairs (λ x y. x ≢ y)) (sym replied_ids-written)
        (IsExecutionOrder-IsLawful (remaining done m) p.order p.ordered).once;
    replied_new = λ x h. Contains-not_done_yet done m p.order p.ordered (ranked_ids p.order) refl x
        (subst (λ (xs : List Id). Contains xs x) replied_ids-written h);
    waiting_rise = p.listed.rising;
    waiting_left = still_waits;
  }

  done_after : (now : List Id) → IsRising now
      → ((x : Id) → Contains now x ↔ Contains done x ⊎ Contains (ranked_ids p.order) x)
      → AreDoneAfter written now
  done_after now rising each = record {
    rising = rising;
    each = λ x. subst (λ (xs : List Id). Contains now x ↔ Contains done x ⊎ Contains xs x)
        (sym replied_ids-written) (each x);
  }

-- a report whose numbers and texts fit their types is a base
pub IsBase-report : (done : List Id) (stored : Contents) (m : List Instance) (text : List ℕ)
    (p : IsReportAfter done stored m text) → IsRising done
    → FitsReportData (written done stored m text p) → (now : List Id) → IsRising now
    → ((x : Id) → Contains now x ↔ Contains done x ⊎ Contains (ranked_ids p.order) x)
    → IsBase text now (run done stored m text p).final
IsBase-report done stored m text p rising fits now nows each =
    subst (λ (bytes : List ℕ). IsBase bytes now (run_in done stored m text p).final)
    (sym (text_is done stored m text p))
    (ReportIsABase-holds (written done stored m text p) now (run_in done stored m text p).final fits
    (in_order done stored m text p rising) (done_after done stored m text p now nows each)
    refl)
