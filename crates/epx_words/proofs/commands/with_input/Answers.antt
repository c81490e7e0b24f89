use Rattle.std.proofs.Common.{refl}
use Rattle.epx_types.proofs.Common.{IfOk-weaker}
use Rattle.clap.specs.Words.{app_of, with_rule}
use Rattle.epx_words.specs.App.{first_rule, logs_rule}
use Rattle.epx_words.proofs.CommandLemmas.{app_of-with_argument}
use Rattle.epx_words.proofs.commands.with_input.Goals as goal

pub returns : goal.returns
returns c =
    let start = app_of c.args.subcommand in
    let one = app_of-with_argument c.args.subcommand c.in_ok-arg.field-0 c.first.result start
    first_rule c.in_ok-arg.ensures refl c.first.ensures refl in
    IfOk-weaker c.arg-2.result _ _
    (λ made added. app_of-with_argument c.in_ok-arg.field-0 made c.logs.result
    (with_rule start first_rule) logs_rule added one c.logs.ensures refl) c.arg-2.ensures
