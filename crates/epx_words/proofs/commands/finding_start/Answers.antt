use Rattle.std.proofs.Common.{codes, refl}
use Rattle.epx_types.proofs.Common.{IfOk-weaker}
use Rattle.epx_words.specs.App.{flag_rule, numbers_app}
use Rattle.epx_words.proofs.CommandLemmas.{app_of-with_argument}
use Rattle.epx_words.proofs.commands.finding_start.Goals as goal

pub returns : goal.returns
returns c =
    IfOk-weaker c.arg.result _ _
    (λ made added. app_of-with_argument c.in_ok-subcommand.field-0 made c.exit_code.result
    (numbers_app c.args.name.now) (flag_rule (codes "exit-code")) added c.in_ok-subcommand.ensures
    c.exit_code.ensures refl) c.arg.ensures
