use Rattle.std.proofs.Common.{◌∙◌, ap, codes, refl}
use Rattle.epx_types.proofs.Common.{IfOk-weaker}
use Rattle.epx_words.specs.App.{flag_rule, numbers_app, with_input}
use Rattle.epx_words.proofs.CommandLemmas.{app_of-with_argument}
use Rattle.epx_words.proofs.commands.trace.Goals as goal

pub returns : goal.returns
returns c =
    let one = app_of-with_argument c.in_ok-subcommand.field-0 c.in_ok-trace.trace c.flag.result
    (numbers_app (codes "trace")) (flag_rule (codes "reads")) c.in_ok-trace.ensures
    c.in_ok-subcommand.ensures c.flag.ensures refl in
    IfOk-weaker c.with_input.result _ _ (λ made is. is ∙ ap with_input one) c.with_input.ensures
