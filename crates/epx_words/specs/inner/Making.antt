-- How the program gets its subcommands.
use Rattle.std.specs.Prelude.{◌≡◌, Result, Ok}
use Rattle.std.specs.declared.alloc.AllocError.{AllocError}
use Rattle.clap.specs.Words.{AddsSubcommand}
use Rattle.clap.specs.declared.builder.command.Command.{Command}

-- a subcommand was made and added
pub record HasMade (before : Command) (made : Result Command AllocError) (after : Command)
    : Type 0 where
  pub subcommand : Command
  pub is_made : made ≡ Ok subcommand
  pub added : AddsSubcommand before subcommand after
