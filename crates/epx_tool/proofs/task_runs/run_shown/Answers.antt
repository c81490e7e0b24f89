use Rattle.std.proofs.Common.{Ok, Err}
use Rattle.epx_types.specs.declared.fault.Fault.{Fault}
use Rattle.epx_tool.proofs.RunEndingLemmas.{IsErr-iff_failed}
use Rattle.epx_tool.proofs.TaskRunLemmas.{EndsTaskRun-refused, EndsTaskRun-unwritten}
use Rattle.epx_tool.proofs.TaskRunLemmas.{EndsTaskRun-written}
use Rattle.epx_tool.proofs.task_runs.run_shown.Goals as goal

pub returns-in-Err : goal.returns-in-Err
returns-in-Err g c =
    EndsTaskRun-refused g.I.Source.model g.S.Source.model g.W.Sink.model _ _ _ _ _ c.args.task
    c.in-Err.fault c.requires.sink c.in-Err.ensures

pub returns-in-Ok-write_out : goal.returns-in-Ok-write_out
returns-in-Ok-write_out g c =
    let wrote = c.in-Ok-write_out.ensures in
    EndsTaskRun-written g.I.Source.model g.S.Source.model g.W.Sink.model _ _ _ _ _ c.args.task
    c.in-Ok.answer _ c.deref.result.now c.deref.ensures.value c.in-Ok.ensures wrote.prefix
    wrote.bytes wrote.flushed
    (IsErr-iff_failed {T = Unit {0}} {E = Fault} _ _ (Ok tt) c.requires.sink wrote.failed)

pub returns-in-Err-write_out : goal.returns-in-Err-write_out
returns-in-Err-write_out g c =
    let failed = c.in-Err-write_out.ensures in
    let fault = c.in-Err-write_out.fault in
    EndsTaskRun-unwritten g.I.Source.model g.S.Source.model g.W.Sink.model _ _ _ _ _ c.args.task
    c.in-Ok.answer _ c.deref.result.now c.deref.ensures.value c.in-Ok.ensures failed.prefix fault
    failed.faults
    (IsErr-iff_failed {T = Unit {0}} {E = Fault} _ _ (Err fault) c.requires.sink failed.failed)
