use Rattle.std.proofs.Common.{codes, refl}
use Rattle.epx_types.proofs.Common.{IfOk-weaker}
use Rattle.clap.specs.Words.{App, with_subcommand}
use Rattle.epx_words.specs.App.{epx_top, finding_app, graph_app}
use Rattle.epx_words.proofs.CommandLemmas.{app_of-with_made}
use Rattle.epx_words.proofs.commands.with_runs.Goals as goal

abbrev to_run : App
to_run = with_subcommand epx_top (finding_app (codes "run")).top

abbrev to_order : App
to_order = with_subcommand to_run (finding_app (codes "order")).top

abbrev to_levels : App
to_levels = with_subcommand to_order (finding_app (codes "levels")).top

abbrev to_blockers : App
to_blockers = with_subcommand to_levels (finding_app (codes "blockers")).top

pub returns : goal.returns
returns c =
    let one = app_of-with_made c.start.result c.in_ok-program.program
    c.finding_subcommand-run.result epx_top (finding_app (codes "run")) c.in_ok-program.ensures
    c.start.ensures c.finding_subcommand-run.ensures refl in
    let two = app_of-with_made c.in_ok-program.program c.in_ok-program-2.program
    c.finding_subcommand-order.result to_run (finding_app (codes "order"))
    c.in_ok-program-2.ensures one c.finding_subcommand-order.ensures refl in
    let three = app_of-with_made c.in_ok-program-2.program c.in_ok-program-3.program
    c.finding_subcommand-levels.result to_order (finding_app (codes "levels"))
    c.in_ok-program-3.ensures two c.finding_subcommand-levels.ensures refl in
    let four = app_of-with_made c.in_ok-program-3.program c.in_ok-program-4.program
    c.finding_subcommand-blockers.result to_levels (finding_app (codes "blockers"))
    c.in_ok-program-4.ensures three c.finding_subcommand-blockers.ensures refl in
    IfOk-weaker c.with_subcommand-5.result _ _ (λ made has. app_of-with_made
    c.in_ok-program-4.program made c.graph.result to_blockers (graph_app (codes "graph")) has
    four c.graph.ensures refl) c.with_subcommand-5.ensures
