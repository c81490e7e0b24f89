use Rattle.std.proofs.Common.{◌≡◌, ◌∙◌, ap, Some, [], ◌∷◌, rules}
use Rattle.clap.specs.Words.{Rule}
use Rattle.clap.specs.declared.builder.action.ArgAction.TheVariants.{Set}
use Rattle.clap.specs.declared.builder.value_parser.ValueParser.TheVariants.{Unsigned}
use Rattle.epx_words.specs.App.{number_rule}
use Rattle.epx_words.proofs.commands.number_option.Goals as goal

pub returns : goal.returns
returns c =
    let name = c.args.name.now in
    let default = c.args.default.now in
    let parser = c.value_parser.result.value_parser in
    let numbers : parser ≡ Some (Unsigned c.args.least c.args.most) = search rules in
    rw (
      c.value_parser.ensures.others,
      c.default_value.ensures,
      c.action.ensures,
      c.value_name.ensures,
      c.long.ensures,
    )
    (ap
    (λ (r : Rule). record r {
      long = Some name;
      action = Some Set;
      defaults = default ∷ [];
      value_names = 1;
      parser = parser;
    }) c.new.ensures.rule
    ∙ ap (λ p. record (number_rule name default c.args.least c.args.most) { parser = p }) numbers)
