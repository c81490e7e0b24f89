use Rattle.std.proofs.Common.{ap, Some}
use Rattle.clap.specs.Words.{Rule}
use Rattle.clap.specs.declared.builder.action.ArgAction.TheVariants.{Set}
use Rattle.epx_words.proofs.commands.text_option.Goals as goal

pub returns : goal.returns
returns c =
    rw (c.help.ensures, c.action.ensures, c.value_name.ensures, c.long.ensures)
    (ap
    (λ (r : Rule). record r {
      long = Some c.args.name.now;
      action = Some Set;
      value_names = 1;
    }) c.new.ensures.rule)
