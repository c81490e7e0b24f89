-- What a subcommand has to name: an instance, a key or a part of the graph that it is about, and a
-- log where its status is asked for.
use Rattle.std.specs.Prelude.{◌≡◌, ◌≢◌, ⊤, ℕ, ◌<◌, ◌^◌, List, [], Option, Some, None, codes}
use Rattle.std.specs.Prelude.{decimal, MatchOption}
use Rattle.std.specs.Option.{IfSome}
use Rattle.clap.specs.Words.{Row, Text}
use Rattle.epx_types.specs.Faults.{id_text}
use Rattle.epx_types.specs.Keys.{FitsKey}
use Rattle.epx_types.specs.declared.id.Id.{Id}
use Rattle.epx_names.specs.IdNames.{FitsIdTypes}
use Rattle.epx_words.specs.SubcommandRows.{Given, HasFlag, around_in, first_in, logs_in, reaches_in}
use Rattle.epx_words.specs.SubcommandRows.{rows_in, steps_in}

-- the text is the name of x: a replica below 2^8, a dot and a number below 2^64 in decimal, as in
-- `0.7`
abbrev pub IsNameOf : Id → Text → Type 0
IsNameOf x text = FitsIdTypes x × (text ≡ id_text x)

-- the text names an instance
abbrev pub IsIdName : Text → Type 0
IsIdName text = (x : Id) × IsNameOf x text

-- the first argument is there and names an instance, and so does the option `--reaches`, if it is
-- there
abbrev pub NameIds : List Row → Type 0
NameIds rows = MatchOption (first_in rows) ⊥ IsIdName × IfSome (reaches_in rows) IsIdName

-- n is below 2^64, and the text is n in decimal, without zeros in front
abbrev pub IsNumberName : ℕ → Text → Type 0
IsNumberName n text = (n < 2 ^ 64) × (text ≡ decimal n)

-- what `--around` and `--steps` say: `--around` names an instance, and `--steps`, which goes with
-- it alone, is a number
abbrev pub ArePartNames : Option Text → Option Text → Type 0
ArePartNames None steps = steps ≡ None
ArePartNames (Some text) steps = IsIdName text × IfSome steps (λ far. (n : ℕ) × IsNumberName n far)

-- `--around` and `--steps` name a part of the graph, or neither is there
abbrev pub NamesPart : List Row → Type 0
NamesPart rows = ArePartNames (around_in rows) (steps_in rows)

-- the first argument is there, and is a key: 1 to 64 bytes
abbrev pub NamesKey : List Row → Type 0
NamesKey rows = MatchOption (first_in rows) ⊥ FitsKey

-- the arguments of `why` name instances (`NameIds`), that of `trace` is a key (`NamesKey`), and
-- those of `graph` name a part (`NamesPart`); other subcommands need to name nothing
abbrev pub NamesSubject : Given → Type 0
NamesSubject None = ⊤
NamesSubject (Some p) =
    (p.0 ≡ codes "why" → NameIds p.1) × (p.0 ≡ codes "trace" → NamesKey p.1)
    × (p.0 ≡ codes "graph" → NamesPart p.1)

-- with `--exit-code` there is a log: a status is about something
abbrev pub NamesLogs : List Row → Type 0
NamesLogs rows = HasFlag (codes "exit-code") rows → logs_in rows ≢ []

-- the words name the instances, the key or the part of the graph that they ask about
-- (`NamesSubject`), and a log if `--exit-code` is there (`NamesLogs`)
abbrev pub NamesAll : Given → Type 0
NamesAll given = NamesSubject given × NamesLogs (rows_in given)
