use Rattle.std.proofs.Common.{codes, refl}
use Rattle.epx_types.proofs.Common.{IfOk-weaker}
use Rattle.clap.specs.Words.{Rule, with_rule}
use Rattle.epx_words.specs.App.{logs_rule, numbers_app, text_rule}
use Rattle.epx_words.proofs.CommandLemmas.{app_of-with_argument}
use Rattle.epx_words.proofs.commands.graph.Goals as goal

abbrev around : Rule
around = text_rule (codes "around")

abbrev steps : Rule
steps = text_rule (codes "steps")

pub returns : goal.returns
returns c =
    let start = numbers_app (codes "graph") in
    let part = with_rule start around in
    let one = app_of-with_argument c.in_ok-subcommand.field-0 c.in_ok-arg.field-0
    c.text_option.result start around c.in_ok-arg.ensures c.in_ok-subcommand.ensures
    c.text_option.ensures refl in
    let two = app_of-with_argument c.in_ok-arg.field-0 c.in_ok-arg-2.field-0 c.text_option-2.result
    part steps c.in_ok-arg-2.ensures one c.text_option-2.ensures refl in
    IfOk-weaker c.arg-3.result _ _
    (λ made added. app_of-with_argument c.in_ok-arg-2.field-0 made c.logs.result
    (with_rule part steps) logs_rule added two c.logs.ensures refl) c.arg-3.ensures
