use Rattle.std.proofs.Common.{ap, Some}
use Rattle.clap.specs.Words.{Rule}
use Rattle.clap.specs.declared.builder.action.ArgAction.TheVariants.{SetTrue}
use Rattle.epx_words.proofs.commands.flag.Goals as goal

pub returns : goal.returns
returns c =
    rw (c.help.ensures, c.action.ensures, c.long.ensures)
    (ap (λ (r : Rule). record r { long = Some c.args.name.now; action = Some SetTrue })
    c.new.ensures.rule)
