-- If the lines of a report are in order, the report is a base.
use Rattle.std.proofs.Common.{sym, subst, T}
use Rattle.epx_types.proofs.Common.{length-map, is_sorted, key_cmp}
use Rattle.std.specs.FinMap as contents
use Rattle.epx_report.specs.ReportReadings.{replied_ids, parts_of_report}
use Rattle.epx_report.specs.between.ReportBases.{DoneAfterExists, ReportIsABase}
use Rattle.epx_report.proofs.ReportReadingLemmas.{ReportIsReadAsItSays-holds}
use Rattle.epx_report.proofs.RisingListLemmas.{T-true}
use Rattle.epx_report.proofs.WholeBaseLemmas.{AreDoneIn-exists}

pub DoneAfterExists-holds : DoneAfterExists
DoneAfterExists-holds r rising = AreDoneIn-exists r.done (replied_ids r.replies) rising

pub ReportIsABase-holds : ReportIsABase
ReportIsABase-holds r done stored fits order those is_stored = record {
  parts = parts_of_report r;
  said = ReportIsReadAsItSays-holds r fits;
  are_parts = record {
    distinct = order;
    stored_rise = T-true _ (subst (λ es. T (is_sorted key_cmp es)) (sym is_stored)
        (contents.entries_sorted stored));
    replies_counted = length-map r.replies (λ p. p.0);
    waiting_counted = length-map r.waiting (λ w. w.id);
  };
  are_done = those;
  are_stored = sym is_stored;
}
