use Rattle.std.proofs.Common.{ap, true}
use Rattle.clap.specs.Simple.{on_top}
use Rattle.clap.specs.Words.{Shape}
use Rattle.epx_words.proofs.commands.start.Goals as goal

pub returns : goal.returns
returns c =
    rw (
      c.args_override_self.ensures,
      c.subcommand_required.ensures,
      c.version.ensures,
      c.override_usage.ensures,
      c.after_help.ensures,
      c.about.ensures,
    )
    (ap
    (on_top
    (λ (shape : Shape). record shape {
      has_version = true;
      subcommand_required = true;
      args_override_self = true;
    })) c.new.ensures.app)
