use Rattle.std.proofs.Common.{◌≡◌, Bool, true, ◌∷◌, [], ap, ◌∙◌}
use Rattle.epx_tool.specs.Findings.{found_of}
use Rattle.epx_program.specs.Calls.{paths_of}
use Rattle.epx_program.specs.Endings.{AddsAnswer, status_of}
use Rattle.epx_program.specs.Inputs.{AreTextsRead, text_relation}
use Rattle.epx_program.proofs.StatusLemmas.{status_of-failed_device, ends-as-done, OnOk-by_status}
use Rattle.epx_program.proofs.StatusLemmas.{IsStatus-status_of}
use Rattle.epx_program.proofs.StatusLemmas.{answer_status-exists, Keeps-by_work}
use Rattle.epx_program.proofs.program.do_work.Goals as goal

pub returns-clause-do_task : goal.returns-clause-do_task
returns-clause-do_task g c =
    let exit_code = c.args.flags.exit_code in
    let done = found_of c.do_task-done.result in
    let do_task = c.do_task-done.ensures in
    let ended = c.report_task-status.ensures in
    let failed = g.W.Sink.model.has_failed c.do_task-done.new.output in
    let old = g.W.Sink.model.contents c.args.output.now in
    let new = g.W.Sink.model.contents c.do_task-done.new.output in
    let Is = text_relation g.O.Opener.model g.O.Opened.Source.model c.new-opener.result
    g.I.Source.model c.new-input.result in
    let Adds : Bool → Type 0 =
    λ found. AddsAnswer c.args.task found (AreTextsRead Is (paths_of c.args.paths)) old new in
    rw (← c.new-input.ensures, ← c.new-opener.ensures) (record {
      ends = IsStatus-status_of exit_code done _ ended;
      over_input = λ bytes alone known. rw ended
          (ends-as-done exit_code c.args.task (bytes ∷ []) done _ _
          (do_task.input bytes alone known));
      answered = answer_status-exists {P = Adds} exit_code done _ ended do_task.answered;
      part = λ bad. do_task.part (do_task.written.1 bad);
      broken = λ alone. status_of-failed_device {P = failed ≡ true} exit_code done _ ended
          do_task.written.0 (λ log unread. do_task.unread log unread alone);
    })

pub returns-clause-nothing : goal.returns-clause-nothing
returns-clause-nothing g c =
    Keeps-by_work c.args.flags.exit_code (found_of c.do_task-done.result) _
    (g.W.Sink.model.has_failed c.do_task-done.new.output) _ _ c.report_task-status.ensures
    c.do_task-done.ensures.nothing c.do_task-done.ensures.written

pub returns-clause-flushed : goal.returns-clause-flushed
returns-clause-flushed g c =
    OnOk-by_status c.args.flags.exit_code (found_of c.do_task-done.result) _ _
    c.report_task-status.ensures
    c.do_task-done.ensures.flushed

pub returns-clause-failed : goal.returns-clause-failed
returns-clause-failed g c = λ bad.
    c.report_task-status.ensures
    ∙ ap (status_of c.args.flags.exit_code) (c.do_task-done.ensures.written.1 bad)
