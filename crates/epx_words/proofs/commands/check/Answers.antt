use Rattle.std.proofs.Common.{◌∙◌, ap, codes, refl}
use Rattle.epx_types.proofs.Common.{IfOk-weaker}
use Rattle.epx_words.specs.App.{finding_start, flag_rule, with_input}
use Rattle.epx_words.proofs.CommandLemmas.{app_of-with_argument}
use Rattle.epx_words.proofs.commands.check.Goals as goal

pub returns : goal.returns
returns c =
    let one = app_of-with_argument c.in_ok-finding_start.field-0 c.in_ok-check.check c.flag.result
    (finding_start (codes "check")) (flag_rule (codes "prefix")) c.in_ok-check.ensures
    c.in_ok-finding_start.ensures c.flag.ensures refl in
    IfOk-weaker c.with_input.result _ _ (λ made is. is ∙ ap with_input one) c.with_input.ensures
