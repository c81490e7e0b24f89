use Rattle.std.proofs.Common.{refl}
use Rattle.epx_types.proofs.Common.{IfOk-weaker}
use Rattle.epx_words.specs.App.{finding_start, logs_rule}
use Rattle.epx_words.proofs.CommandLemmas.{app_of-with_argument}
use Rattle.epx_words.proofs.commands.finding_subcommand.Goals as goal

pub returns : goal.returns
returns c =
    IfOk-weaker c.arg.result _ _
    (λ made added. app_of-with_argument c.in_ok-finding_start.field-0 made c.logs.result
    (finding_start c.args.name.now) logs_rule added c.in_ok-finding_start.ensures c.logs.ensures
    refl) c.arg.ensures
