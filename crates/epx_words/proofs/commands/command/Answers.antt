use Rattle.std.proofs.Common.{codes, refl}
use Rattle.epx_types.proofs.Common.{IfOk-weaker}
use Rattle.clap.specs.Words.{App, with_subcommand}
use Rattle.epx_words.specs.App.{checks_app, finding_app, follow_app, input_app, trace_app, why_app}
use Rattle.epx_words.proofs.CommandLemmas.{app_of-with_made}
use Rattle.epx_words.proofs.commands.command.Goals as goal

abbrev to_replay : App
to_replay = with_subcommand checks_app (input_app (codes "replay")).top

abbrev to_compare : App
to_compare = with_subcommand to_replay (finding_app (codes "compare")).top

abbrev to_why : App
to_why = with_subcommand to_compare (why_app (codes "why")).top

abbrev to_trace : App
to_trace = with_subcommand to_why (trace_app (codes "trace")).top

pub returns : goal.returns
returns c =
    let one = app_of-with_made c.in_ok-with_checks.field-0 c.in_ok-program.program
    c.replay.result checks_app (input_app (codes "replay")) c.in_ok-program.ensures
    c.in_ok-with_checks.ensures c.replay.ensures refl in
    let two = app_of-with_made c.in_ok-program.program c.in_ok-program-2.program
    c.finding_subcommand-compare.result to_replay (finding_app (codes "compare"))
    c.in_ok-program-2.ensures one c.finding_subcommand-compare.ensures refl in
    let three = app_of-with_made c.in_ok-program-2.program c.in_ok-program-3.program c.why.result
    to_compare (why_app (codes "why")) c.in_ok-program-3.ensures two c.why.ensures refl in
    let four = app_of-with_made c.in_ok-program-3.program c.in_ok-program-4.program
    c.trace.result to_why (trace_app (codes "trace")) c.in_ok-program-4.ensures three
    c.trace.ensures refl in
    IfOk-weaker c.with_subcommand-5.result _ _ (λ made has. app_of-with_made
    c.in_ok-program-4.program made c.follow.result to_trace (follow_app (codes "follow")) has
    four c.follow.ensures refl) c.with_subcommand-5.ensures
