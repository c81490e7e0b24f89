use Rattle.std.proofs.Common.{ap, true, Some}
use Rattle.clap.specs.Words.{Rule}
use Rattle.clap.specs.declared.builder.action.ArgAction.TheVariants.{Set}
use Rattle.epx_words.proofs.commands.first.Goals as goal

pub returns : goal.returns
returns c =
    rw (c.help.ensures, c.required.ensures, c.action.ensures, c.value_name.ensures)
    (ap (λ (r : Rule). record r { action = Some Set; value_names = 1; required = true })
    c.new.ensures.rule)
