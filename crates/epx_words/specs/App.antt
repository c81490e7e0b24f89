-- The program as clap knows it. Each subcommand has two options with numbers, the flags `--explain`
-- and `--quiet`, and any number of logs. Some have a required argument before the logs, further
-- flags, a third number, or options whose values are texts: instances, steps, or paths of states.
use Rattle.std.specs.Prelude.{ℕ, true, Some, [], ◌∷◌, codes}
use Rattle.clap.specs.Simple.{on_top}
use Rattle.clap.specs.Words.{App, Rule, Text, new_app, new_rule, with_rule, with_subcommand}
use Rattle.clap.specs.declared.builder.action.ArgAction.TheVariants.{Append, Set, SetTrue}
use Rattle.clap.specs.declared.builder.value_parser.ValueParser.TheVariants.{Unsigned}
use Rattle.epx_words.specs.SubcommandRows.{max_skew}

-- the option `--name` for a whole number from `least` to `most`, with this default
abbrev pub number_rule : Text → Text → ℕ → ℕ → Rule
number_rule name default least most = record (new_rule name) {
  long = Some name;
  action = Some Set;
  defaults = default ∷ [];
  value_names = 1;
  parser = Some (Unsigned least most);
}

-- the argument `logs`: the paths of any number of logs
abbrev pub logs_rule : Rule
logs_rule = record (new_rule (codes "logs")) { action = Some Append; value_names = 1 }

-- the required argument before the logs
abbrev pub first_rule : Rule
first_rule = record (new_rule (codes "first")) {
  action = Some Set;
  value_names = 1;
  required = true;
}

-- the flag `--name`, which has no value
abbrev pub flag_rule : Text → Rule
flag_rule name = record (new_rule name) { long = Some name; action = Some SetTrue }

-- the option `--name`, whose value is a text
abbrev pub text_rule : Text → Rule
text_rule name = record (new_rule name) {
  long = Some name;
  action = Some Set;
  value_names = 1;
}

-- a subcommand with the arguments that all have: `--workers` from 1 to 64, by default 4, `--cut`
-- from 1 to 65536, by default 256, `--explain` and `--quiet`
abbrev pub numbers_app : Text → App
numbers_app name =
    with_rule
    (with_rule
    (with_rule (with_rule (new_app name) (number_rule (codes "workers") (codes "4") 1 64))
    (number_rule (codes "cut") (codes "256") 1 65536))
    (flag_rule (codes "explain")))
    (flag_rule (codes "quiet"))

-- a subcommand that can find something, without its further arguments: it has `--exit-code`,
-- besides the arguments that all have
abbrev pub finding_start : Text → App
finding_start name = with_rule (numbers_app name) (flag_rule (codes "exit-code"))

-- the subcommand with two more arguments: a required one, and then logs
abbrev pub with_input : App → App
with_input app = with_rule (with_rule app first_rule) logs_rule

-- a subcommand with the arguments of `run`, `order`, `levels`, `blockers` and `compare`:
-- `--exit-code` and logs, besides those that all have
abbrev pub finding_app : Text → App
finding_app name = with_rule (finding_start name) logs_rule

-- a subcommand with the arguments of `audit`: `--exit-code`, `--all` and logs, besides those that
-- all have
abbrev pub audit_app : Text → App
audit_app name = with_rule (with_rule (finding_start name) (flag_rule (codes "all"))) logs_rule

-- a subcommand with the arguments of `graph`: `--around` and `--steps`, whose values are texts, and
-- logs, besides those that all have
abbrev pub graph_app : Text → App
graph_app name =
    with_rule
    (with_rule (with_rule (numbers_app name) (text_rule (codes "around")))
    (text_rule (codes "steps")))
    logs_rule

-- a subcommand with the arguments of `resume` and `verify`: `--exit-code`, a required input (a
-- base, or what a replica said) and logs, besides those that all have
abbrev pub base_app : Text → App
base_app name = with_input (finding_start name)

-- a subcommand with the arguments of `check`: `--exit-code`, `--prefix`, a required list and logs,
-- besides those that all have
abbrev pub list_app : Text → App
list_app name = with_input (with_rule (finding_start name) (flag_rule (codes "prefix")))

-- a subcommand with the arguments of `linear`: `--exit-code`, `--skew` from 0 to `max_skew`, by
-- default 0, a required history of calls, and logs, besides those that all have
abbrev pub linear_app : Text → App
linear_app name = with_input
    (with_rule (finding_start name) (number_rule (codes "skew") (codes "0") 0 max_skew))

-- a subcommand with the arguments of `replay`: a required list and logs, besides those that all
-- have
abbrev pub input_app : Text → App
input_app name = with_input (numbers_app name)

-- a subcommand with the arguments of `why`: `--reaches`, whose value is a text, a required name of
-- an instance, and logs, besides those that all have
abbrev pub why_app : Text → App
why_app name = with_input (with_rule (numbers_app name) (text_rule (codes "reaches")))

-- a subcommand with the arguments of `trace`: `--reads`, a required key and logs, besides those
-- that all have
abbrev pub trace_app : Text → App
trace_app name = with_input (with_rule (numbers_app name) (flag_rule (codes "reads")))

-- a subcommand with the arguments of `follow`: `--each`, `--state` and `--save`, whose values are
-- texts, and logs, besides those that all have
abbrev pub follow_app : Text → App
follow_app name =
    with_rule
    (with_rule
    (with_rule (with_rule (numbers_app name) (flag_rule (codes "each")))
    (text_rule (codes "state")))
    (text_rule (codes "save")))
    logs_rule

-- the program without its subcommands: it has `--version`, and one subcommand is required; of an
-- option that is given twice the last counts
abbrev pub epx_top : App
epx_top = on_top
    (λ shape. record shape {
      has_version = true;
      subcommand_required = true;
      args_override_self = true;
    })
    (new_app (codes "epx"))

-- the program with the subcommands `run`, `order`, `levels`, `blockers` and `graph`
abbrev pub runs_app : App
runs_app =
    with_subcommand
    (with_subcommand
    (with_subcommand (with_subcommand (with_subcommand epx_top (finding_app (codes "run")).top)
    (finding_app (codes "order")).top) (finding_app (codes "levels")).top)
    (finding_app (codes "blockers")).top)
    (graph_app (codes "graph")).top

-- `runs_app` with the subcommands `resume`, `audit`, `check`, `verify` and `linear` too
abbrev pub checks_app : App
checks_app =
    with_subcommand
    (with_subcommand
    (with_subcommand
    (with_subcommand (with_subcommand runs_app (base_app (codes "resume")).top)
    (audit_app (codes "audit")).top) (list_app (codes "check")).top)
    (base_app (codes "verify")).top) (linear_app (codes "linear")).top

-- the program with all subcommands: those of `checks_app`, and `replay`, `compare`, `why`, `trace`
-- and `follow`
abbrev pub epx_app : App
epx_app =
    with_subcommand
    (with_subcommand
    (with_subcommand
    (with_subcommand (with_subcommand checks_app (input_app (codes "replay")).top)
    (finding_app (codes "compare")).top) (why_app (codes "why")).top)
    (trace_app (codes "trace")).top) (follow_app (codes "follow")).top
