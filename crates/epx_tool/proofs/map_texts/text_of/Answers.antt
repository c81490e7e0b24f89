use Rattle.std.proofs.Common.{◌≡◌, ◌∙◌, ◌↔◌, List, [], true, IfOk, sym, subst}
use Rattle.epx_types.proofs.Common.{IfOk-weaker, Contents, remaining, Instance, remaining-nil}
use Rattle.epx_types.specs.declared.id.Id.{Id}
use Rattle.epx_picture.specs.Pictures.{IsPicture}
use Rattle.epx_picture.specs.PicturesAround.{IsPictureAround}
use Rattle.epx_trace.specs.TraceTexts.{IsTraceText}
use Rattle.epx_why.specs.WhyTexts.{IsPathText}
use Rattle.epx_tool.specs.Findings.{SomeWaits}
use Rattle.epx_tool.specs.inner.MapQuestions.{FindsOf, IsTextOf}
use Rattle.epx_tool.specs.ResumedReport.{IsReportAfter}
use Rattle.epx_tool.proofs.ReportLemmas.{IsReport-after_nothing}
use Rattle.epx_tool.proofs.map_texts.text_of.Goals as goal

pub returns-in-Report-clause-text : goal.returns-in-Report-clause-text
returns-in-Report-clause-text g c =
    let m = c.args.merged.now in
    subst (λ question. IfOk c.report_of.result (λ a. IsTextOf question m a.text.items))
    (sym c.in-Report.is) (IfOk-weaker c.report_of.result _ _ (λ a is.
    IsReport-after_nothing m a.text.items
    (subst (λ (s : Contents). IsReportAfter [] s m a.text.items) c.new.ensures is))
    c.report_of.ensures.text)

pub returns-in-Report-clause-found : goal.returns-in-Report-clause-found
returns-in-Report-clause-found g c =
    let m = c.args.merged.now in
    subst (λ question. IfOk c.report_of.result
    (λ a. (a.has_findings ≡ true) ↔ FindsOf question m a.text.items))
    (sym c.in-Report.is) (IfOk-weaker c.report_of.result _ _ (λ a finds.
    subst (λ (l : List Instance). (a.has_findings ≡ true) ↔ SomeWaits l) (remaining-nil m) finds)
    c.report_of.ensures.found)

pub returns-in-Order-clause-text : goal.returns-in-Order-clause-text
returns-in-Order-clause-text g c = subst
    (λ question. IfOk c.order_of.result (λ a. IsTextOf question c.args.merged.now a.text.items))
    (sym c.in-Order.is) c.order_of.ensures.text

pub returns-in-Order-clause-found : goal.returns-in-Order-clause-found
returns-in-Order-clause-found g c = subst
    (λ question. IfOk c.order_of.result
    (λ a. (a.has_findings ≡ true) ↔ FindsOf question c.args.merged.now a.text.items))
    (sym c.in-Order.is) c.order_of.ensures.found

pub returns-in-Levels-clause-text : goal.returns-in-Levels-clause-text
returns-in-Levels-clause-text g c = subst
    (λ question. IfOk c.levels_of.result (λ a. IsTextOf question c.args.merged.now a.text.items))
    (sym c.in-Levels.is) c.levels_of.ensures.text

pub returns-in-Levels-clause-found : goal.returns-in-Levels-clause-found
returns-in-Levels-clause-found g c = subst
    (λ question. IfOk c.levels_of.result
    (λ a. (a.has_findings ≡ true) ↔ FindsOf question c.args.merged.now a.text.items))
    (sym c.in-Levels.is) c.levels_of.ensures.found

pub returns-in-Blockers-clause-text : goal.returns-in-Blockers-clause-text
returns-in-Blockers-clause-text g c = subst
    (λ question. IfOk c.blockers_of.result (λ a. IsTextOf question c.args.merged.now a.text.items))
    (sym c.in-Blockers.is) c.blockers_of.ensures.text

pub returns-in-Blockers-clause-found : goal.returns-in-Blockers-clause-found
returns-in-Blockers-clause-found g c = subst
    (λ question. IfOk c.blockers_of.result
    (λ a. (a.has_findings ≡ true) ↔ FindsOf question c.args.merged.now a.text.items))
    (sym c.in-Blockers.is) c.blockers_of.ensures.found

pub returns-in-Audit-clause-found : goal.returns-in-Audit-clause-found
returns-in-Audit-clause-found g c = subst
    (λ question. IfOk c.audit_of.result
    (λ a. (a.has_findings ≡ true) ↔ FindsOf question c.args.merged.now a.text.items))
    (sym c.in-Audit.is) c.audit_of.ensures.found

pub returns-in-AuditAll-clause-text : goal.returns-in-AuditAll-clause-text
returns-in-AuditAll-clause-text g c = subst
    (λ question. IfOk c.audit_all_of.result (λ a. IsTextOf question c.args.merged.now a.text.items))
    (sym c.in-AuditAll.is) c.audit_all_of.ensures.text

pub returns-in-AuditAll-clause-found : goal.returns-in-AuditAll-clause-found
returns-in-AuditAll-clause-found g c = subst
    (λ question. IfOk c.audit_all_of.result
    (λ a. (a.has_findings ≡ true) ↔ FindsOf question c.args.merged.now a.text.items))
    (sym c.in-AuditAll.is) c.audit_all_of.ensures.found

pub returns-in_ok-picture_around-in-Around-clause-text :
    goal.returns-in_ok-picture_around-in-Around-clause-text
returns-in_ok-picture_around-in-Around-clause-text g c =
    let m = c.args.merged.now in
    subst (λ question. IsTextOf question m c.new-in-Around.result.text.items) (sym c.in-Around.is)
    (subst (λ t. IsPictureAround m c.in-Around.id c.in-Around.steps t.items)
    (sym c.new-in-Around.ensures.text) c.in_ok-picture_around-in-Around.ensures)

pub returns-in_ok-picture-in-Graph-clause-text : goal.returns-in_ok-picture-in-Graph-clause-text
returns-in_ok-picture-in-Graph-clause-text g c =
    let m = c.args.merged.now in
    subst (λ question. IsTextOf question m c.new-in-Graph.result.text.items) (sym c.in-Graph.is)
    (subst (λ t. IsPicture m t.items) (sym c.new-in-Graph.ensures.text)
    c.in_ok-picture-in-Graph.ensures)

pub path_text-requires : goal.path_text-requires
path_text-requires g c = (c.args.merged.now, c.in_ok-graph-in-Path.ensures.graph)

pub returns-in_ok-path_text-in-Path-clause-text : goal.returns-in_ok-path_text-in-Path-clause-text
returns-in_ok-path_text-in-Path-clause-text g c =
    let m = c.args.merged.now in
    subst (λ question. IsTextOf question m c.new-in-Path.result.text.items) (sym c.in-Path.is)
    (subst (λ t. IsPathText m c.in-Path.from c.in-Path.to t.items) (sym c.new-in-Path.ensures.text)
    (c.in_ok-path_text-in-Path.ensures m c.in_ok-graph-in-Path.ensures.graph))

pub returns-in_ok-trace_of-in-Trace-clause-text : goal.returns-in_ok-trace_of-in-Trace-clause-text
returns-in_ok-trace_of-in-Trace-clause-text g c =
    let m = c.args.merged.now in
    subst (λ question. IsTextOf question m c.new-in-Trace.result.text.items) (sym c.in-Trace.is)
    (subst (λ t. IsTraceText m c.in-Trace.key.text.bytes c.in-Trace.reads t.items)
    (sym c.new-in-Trace.ensures.text) c.in_ok-trace_of-in-Trace.ensures)

pub returns-in-Resume-clause-text : goal.returns-in-Resume-clause-text
returns-in-Resume-clause-text g c =
    let m = c.args.merged.now in
    let done = c.deref.ensures.value ∙ c.into_parts-done.ensures.done in
    let stored = subst (λ (s : Contents). IfOk c.report_of-in-Resume.result
    (λ a. IsReportAfter c.deref.result.now s m a.text.items)) c.into_parts-done.ensures.store
    c.report_of-in-Resume.ensures.text in
    subst (λ question. IfOk c.report_of-in-Resume.result
    (λ a. IsTextOf question m a.text.items)) (sym c.in-Resume.is)
    (subst (λ (done : List Id). IfOk c.report_of-in-Resume.result
    (λ a. IsReportAfter done c.in-Resume.base.stored m a.text.items)) done stored)

pub returns-in-Resume-clause-found : goal.returns-in-Resume-clause-found
returns-in-Resume-clause-found g c = subst
    (λ question. IfOk c.report_of-in-Resume.result
    (λ a. (a.has_findings ≡ true) ↔ FindsOf question c.args.merged.now a.text.items))
    (sym c.in-Resume.is) (subst (λ (done : List Id). IfOk c.report_of-in-Resume.result
    (λ a. (a.has_findings ≡ true) ↔ SomeWaits (remaining done c.args.merged.now)))
    (c.deref.ensures.value ∙ c.into_parts-done.ensures.done) c.report_of-in-Resume.ensures.found)

pub returns-in-Check-clause-found : goal.returns-in-Check-clause-found
returns-in-Check-clause-found g c = subst
    (λ question. IfOk c.verdict_of.result
    (λ a. (a.has_findings ≡ true) ↔ FindsOf question c.args.merged.now a.text.items))
    (sym c.in-Check.is) c.verdict_of.ensures.found

pub returns-in-CheckPrefix-clause-found : goal.returns-in-CheckPrefix-clause-found
returns-in-CheckPrefix-clause-found g c = subst
    (λ question. IfOk c.prefix_verdict_of.result
    (λ a. (a.has_findings ≡ true) ↔ FindsOf question c.args.merged.now a.text.items))
    (sym c.in-CheckPrefix.is) c.prefix_verdict_of.ensures.found

pub returns-in-Linear-clause-text : goal.returns-in-Linear-clause-text
returns-in-Linear-clause-text g c = subst
    (λ question. IfOk c.linear_of.result (λ a. IsTextOf question c.args.merged.now a.text.items))
    (sym c.in-Linear.is) c.linear_of.ensures.text

pub returns-in-Linear-clause-found : goal.returns-in-Linear-clause-found
returns-in-Linear-clause-found g c = subst
    (λ question. IfOk c.linear_of.result
    (λ a. (a.has_findings ≡ true) ↔ FindsOf question c.args.merged.now a.text.items))
    (sym c.in-Linear.is) c.linear_of.ensures.found

pub returns-in-Verify-clause-found : goal.returns-in-Verify-clause-found
returns-in-Verify-clause-found g c = subst
    (λ question. IfOk c.said_verdict_of.result
    (λ a. (a.has_findings ≡ true) ↔ FindsOf question c.args.merged.now a.text.items))
    (sym c.in-Verify.is) c.said_verdict_of.ensures.found
