use Rattle.std.proofs.Common.{◌∙◌, ap, codes, refl}
use Rattle.epx_types.proofs.Common.{IfOk-weaker}
use Rattle.epx_words.specs.App.{numbers_app, text_rule, with_input}
use Rattle.epx_words.proofs.CommandLemmas.{app_of-with_argument}
use Rattle.epx_words.proofs.commands.why.Goals as goal

pub returns : goal.returns
returns c =
    let one = app_of-with_argument c.in_ok-subcommand.field-0 c.in_ok-why.why c.text_option.result
    (numbers_app (codes "why")) (text_rule (codes "reaches")) c.in_ok-why.ensures
    c.in_ok-subcommand.ensures c.text_option.ensures refl in
    IfOk-weaker c.with_input.result _ _ (λ made is. is ∙ ap with_input one) c.with_input.ensures
