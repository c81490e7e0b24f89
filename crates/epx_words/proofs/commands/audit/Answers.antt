use Rattle.std.proofs.Common.{codes, refl}
use Rattle.epx_types.proofs.Common.{IfOk-weaker}
use Rattle.clap.specs.Words.{Rule, with_rule}
use Rattle.epx_words.specs.App.{finding_start, flag_rule, logs_rule}
use Rattle.epx_words.proofs.CommandLemmas.{app_of-with_argument}
use Rattle.epx_words.proofs.commands.audit.Goals as goal

abbrev all : Rule
all = flag_rule (codes "all")

pub returns : goal.returns
returns c =
    let start = finding_start (codes "audit") in
    let one = app_of-with_argument c.in_ok-finding_start.field-0 c.in_ok-arg.field-0 c.flag.result
    start all c.in_ok-arg.ensures c.in_ok-finding_start.ensures c.flag.ensures refl in
    IfOk-weaker c.arg-2.result _ _
    (λ made added. app_of-with_argument c.in_ok-arg.field-0 made c.logs.result
    (with_rule start all) logs_rule added one c.logs.ensures refl) c.arg-2.ensures
