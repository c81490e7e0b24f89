-- The values in the rows of a subcommand: numbers, flags, texts, the logs, and the argument before
-- them.
use Rattle.std.specs.Prelude.{◌≡◌, ◌⊎◌, ℕ, List, [], ◌∷◌, Option, Some, None, codes, option_map}
use Rattle.std.specs.Prelude.{unwrap_or}
use Rattle.std.specs.Option.{IsSome, option_map_or}
use Rattle.std.specs.Str.Parse.{IsNumeral, digits_value, without_leading_plus}
use Rattle.clap.specs.Words.{IsUnsignedIn, Row, Text, all_of, first_of, one_of}

-- the name of the subcommand that words name, and its rows: the values of each of its arguments
abbrev pub Given : Type 0
Given = Option (Text × List Row)

-- the name of the subcommand, if the words name one
abbrev pub name_in : Given → Option Text
name_in = option_map (λ p. p.0)

-- the rows of the subcommand; none if the words name no subcommand
abbrev pub rows_in : Given → List Row
rows_in given = option_map_or (λ p. p.1) given []

-- the text is decimal digits, with or without a leading plus, and n is their value
abbrev pub IsNumberOf : Option Text → ℕ → Type 0
IsNumberOf None n = ⊥
IsNumberOf (Some text) n = IsNumeral 10 (without_leading_plus text)
    × (n ≡ digits_value 10 (without_leading_plus text))

-- the option `--workers` has the value n
abbrev pub IsWorkersOf : List Row → ℕ → Type 0
IsWorkersOf rows n = IsNumberOf (one_of (codes "workers") rows) n

-- the option `--cut` has the value n
abbrev pub IsCutOf : List Row → ℕ → Type 0
IsCutOf rows n = IsNumberOf (one_of (codes "cut") rows) n

-- the option `--skew` has the value n
abbrev pub IsSkewOf : List Row → ℕ → Type 0
IsSkewOf rows n = IsNumberOf (one_of (codes "skew") rows) n

-- the greatest skew, 2^63 - 1: the times of calls are below 2^63
abbrev pub max_skew : ℕ
max_skew = 9223372036854775807

-- the paths of the logs, in their order
abbrev pub logs_in : List Row → List Text
logs_in rows = unwrap_or (all_of (codes "logs") rows) []

-- the texts, or None if there are none
abbrev pub some_texts : List Text → Option (List Text)
some_texts [] = None
some_texts (t ∷ ts) = Some (t ∷ ts)

-- the paths of the logs, or None if no log is named
abbrev pub some_logs_in : List Row → Option (List Text)
some_logs_in rows = some_texts (logs_in rows)

-- the argument before the logs, if there is one: a path, the name of an instance, or a key
abbrev pub first_in : List Row → Option Text
first_in rows = first_of (codes "first") rows

-- the value of the option `--reaches`, if it is there
abbrev pub reaches_in : List Row → Option Text
reaches_in rows = first_of (codes "reaches") rows

-- the value of the option `--around`, if it is there
abbrev pub around_in : List Row → Option Text
around_in rows = first_of (codes "around") rows

-- the value of the option `--steps`, if it is there
abbrev pub steps_in : List Row → Option Text
steps_in rows = first_of (codes "steps") rows

-- the value of the option `--state`, if it is there
abbrev pub state_in : List Row → Option Text
state_in rows = first_of (codes "state") rows

-- the value of the option `--save`, if it is there
abbrev pub save_in : List Row → Option Text
save_in rows = first_of (codes "save") rows

-- a flag is there
abbrev pub HasFlag : Text → List Row → Type 0
HasFlag flag rows = first_of flag rows ≡ Some (codes "true")

-- the text is a number from `least` to `most`
abbrev pub IsNumberIn : ℕ → ℕ → Option Text → Type 0
IsNumberIn least most None = ⊥
IsNumberIn least most (Some text) = IsUnsignedIn least most text

-- the text is one of these
abbrev pub IsOneOf : Text → List Text → Type 0
IsOneOf text [] = ⊥
IsOneOf text (t ∷ ts) = (text ≡ t) ⊎ IsOneOf text ts

-- the names of the subcommands of tasks
abbrev pub task_names : List Text
task_names = codes "run" ∷ codes "order" ∷ codes "levels" ∷ codes "blockers" ∷ codes "graph"
    ∷ codes "resume" ∷ codes "audit" ∷ codes "check" ∷ codes "verify" ∷ codes "linear"
    ∷ codes "replay" ∷ codes "compare" ∷ codes "why" ∷ codes "trace" ∷ []

-- the name of the subcommand of a task
abbrev pub IsTaskName : Text → Type 0
IsTaskName name = IsOneOf name task_names

-- the name of a subcommand that asks for work: that of a task, or `follow`
abbrev pub IsWorkName : Text → Type 0
IsWorkName name = IsTaskName name ⊎ (name ≡ codes "follow")

-- the names of the subcommands with an argument before the logs: a base, a list, what a replica
-- said, a history of calls, the name of an instance, or a key
abbrev pub first_names : List Text
first_names = codes "resume" ∷ codes "check" ∷ codes "verify" ∷ codes "linear" ∷ codes "replay"
    ∷ codes "why" ∷ codes "trace" ∷ []

-- the name of a subcommand with a required argument before the logs
abbrev pub NeedsFirst : Text → Type 0
NeedsFirst name = IsOneOf name first_names

-- a subcommand that asks for work, a task or `follow`, with its numbers in their ranges and with
-- its required first argument; `follow` has no `--exit-code`, and `linear` has a skew
abbrev pub AsksForWork : Given → Type 0
AsksForWork None = ⊥
AsksForWork (Some p) =
    IsWorkName p.0 × IsNumberIn 1 64 (one_of (codes "workers") p.1)
    × IsNumberIn 1 65536 (one_of (codes "cut") p.1) × (NeedsFirst p.0 → IsSome (first_in p.1))
    × (p.0 ≡ codes "follow" → ¬ HasFlag (codes "exit-code") p.1)
    × (p.0 ≡ codes "linear" → IsNumberIn 0 max_skew (one_of (codes "skew") p.1))
