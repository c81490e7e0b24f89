use Rattle.std.proofs.Common.{codes, refl}
use Rattle.epx_types.proofs.Common.{IfOk-weaker}
use Rattle.clap.specs.Words.{Rule, with_rule}
use Rattle.epx_words.specs.App.{flag_rule, logs_rule, numbers_app, text_rule}
use Rattle.epx_words.proofs.CommandLemmas.{app_of-with_argument}
use Rattle.epx_words.proofs.commands.follow.Goals as goal

abbrev each : Rule
each = flag_rule (codes "each")

abbrev state : Rule
state = text_rule (codes "state")

abbrev save : Rule
save = text_rule (codes "save")

pub returns : goal.returns
returns c =
    let start = numbers_app (codes "follow") in
    let by_line = with_rule start each in
    let from_state = with_rule by_line state in
    let one = app_of-with_argument c.in_ok-subcommand.field-0 c.in_ok-arg.field-0 c.flag.result
    start each c.in_ok-arg.ensures c.in_ok-subcommand.ensures c.flag.ensures refl in
    let two = app_of-with_argument c.in_ok-arg.field-0 c.in_ok-arg-2.field-0 c.text_option.result
    by_line state c.in_ok-arg-2.ensures one c.text_option.ensures refl in
    let three =
    app_of-with_argument c.in_ok-arg-2.field-0 c.in_ok-arg-3.field-0 c.text_option-2.result
    from_state save c.in_ok-arg-3.ensures two c.text_option-2.ensures refl in
    IfOk-weaker c.arg-4.result _ _
    (λ made added. app_of-with_argument c.in_ok-arg-3.field-0 made c.logs.result
    (with_rule from_state save) logs_rule added three c.logs.ensures refl) c.arg-4.ensures
