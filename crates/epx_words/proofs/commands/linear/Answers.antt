use Rattle.std.proofs.Common.{◌≡◌, ◌∙◌, ap, codes, refl, rules}
use Rattle.epx_types.proofs.Common.{IfOk-weaker}
use Rattle.clap.specs.Words.{Rule, rule_of}
use Rattle.epx_words.specs.App.{finding_start, number_rule, with_input}
use Rattle.epx_words.specs.SubcommandRows.{max_skew}
use Rattle.epx_words.proofs.CommandLemmas.{app_of-with_argument}
use Rattle.epx_words.proofs.commands.linear.Goals as goal

abbrev skew : Rule
skew = number_rule (codes "skew") (codes "0") 0 max_skew

pub returns : goal.returns
returns c =
    let skew_is : rule_of c.help.result ≡ skew = search rules in
    let one = app_of-with_argument c.in_ok-finding_start.field-0 c.in_ok-linear.linear c.help.result
    (finding_start (codes "linear")) skew c.in_ok-linear.ensures c.in_ok-finding_start.ensures
    skew_is refl in
    IfOk-weaker c.with_input.result _ _ (λ made is. is ∙ ap with_input one) c.with_input.ensures
