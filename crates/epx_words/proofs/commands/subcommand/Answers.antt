use Rattle.std.proofs.Common.{◌≡◌, codes, refl, rules}
use Rattle.epx_types.proofs.Common.{IfOk-weaker}
use Rattle.clap.specs.Words.{new_app, rule_of, with_rule}
use Rattle.epx_words.specs.App.{flag_rule, number_rule}
use Rattle.epx_words.proofs.CommandLemmas.{app_of-with_argument}
use Rattle.epx_words.proofs.commands.subcommand.Goals as goal

pub returns : goal.returns
returns c =
    let start = new_app c.args.name.now in
    let workers = number_rule (codes "workers") (codes "4") 1 64 in
    let cut = number_rule (codes "cut") (codes "256") 1 65536 in
    let workers_is : rule_of c.help.result ≡ workers = search rules in
    let cut_is : rule_of c.help-2.result ≡ cut = search rules in
    let one = app_of-with_argument c.with_help.result c.in_ok-arg.field-0 c.help.result start
    workers c.in_ok-arg.ensures c.with_help.ensures workers_is refl in
    let two = app_of-with_argument c.in_ok-arg.field-0 c.in_ok-arg-2.field-0 c.help-2.result
    (with_rule start workers) cut c.in_ok-arg-2.ensures one cut_is refl in
    let three = app_of-with_argument c.in_ok-arg-2.field-0 c.in_ok-arg-3.field-0 c.flag.result
    (with_rule (with_rule start workers) cut) (flag_rule (codes "explain")) c.in_ok-arg-3.ensures
    two c.flag.ensures refl in
    IfOk-weaker c.arg-4.result _ _
    (λ made added. app_of-with_argument c.in_ok-arg-3.field-0 made c.flag-2.result
    (with_rule (with_rule (with_rule start workers) cut) (flag_rule (codes "explain")))
    (flag_rule (codes "quiet")) added three c.flag-2.ensures refl) c.arg-4.ensures
