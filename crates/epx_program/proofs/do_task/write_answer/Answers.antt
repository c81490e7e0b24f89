use Rattle.std.proofs.Common.{Some, ap, refl}
use Rattle.epx_devices.specs.MemoryDevices.{memory_source}
use Rattle.epx_names.specs.Tasks.{HasInput}
use Rattle.epx_tool.specs.Findings.{found_of}
use Rattle.epx_program.proofs.OutcomeLemmas.{Outcome-first, Outcome-logs, Outcome-nothing}
use Rattle.epx_program.proofs.do_task.write_answer.Goals as goal

pub returns-then-not-has_input : goal.returns-then-not-has_input
returns-then-not-has_input g c =
    let alone : ¬ HasInput c.args.task = λ has.
    let yes = c.has_input.ensures.1 has in absurd (cc (yes, c.if-not-has_input.true)) in
    Outcome-logs g.S.Source.model g.W.Sink.model c.args.task c.args.sources.now _ _ _ alone
    (found_of c.run_shown.result) (c.run_shown.ensures.alone alone)

pub returns-in-Some : goal.returns-in-Some
returns-in-Some g c =
    let has = c.has_input.ensures.0 c.if-not-has_input.false in
    Outcome-first g.S.Source.model g.W.Sink.model c.args.task c.args.sources.now _ _ _ has
    _ _ _ _ c.in-Some.ensures.cases.0 refl (found_of c.run_shown-in-Some.result)
    (c.run_shown-in-Some.ensures.with_input has)

pub returns-in-None : goal.returns-in-None
returns-in-None g c =
    let has = c.has_input.ensures.0 c.if-not-has_input.false in
    let sources = c.args.sources.now in
    Outcome-nothing g.S.Source.model g.W.Sink.model c.args.task sources sources _ _ has
    memory_source _ _ _
    c.in-None.ensures.cases (ap Some c.new-empty.ensures) (λ bad. bad.1.failed)
    (found_of c.run_shown-in-None.result) (c.run_shown-in-None.ensures.with_input has)
