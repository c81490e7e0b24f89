-- The exit status of the program after a text.
use Rattle.std.specs.Prelude.{◌≡◌, ◌⊎◌, ℕ, []}
use Rattle.clap.specs.Words.{IsAmong, Kinds}
use Rattle.clap.specs.declared.error.kind.ErrorKind.{ErrorKind}
use Rattle.clap.specs.declared.error.kind.ErrorKind.TheVariants.{DisplayHelp, DisplayVersion}
use Rattle.epx_words.specs.SubcommandRows.{Given}
use Rattle.epx_words.specs.Subjects.{NamesAll}

-- 0 after the help or the version, and 2 after a refusal
abbrev pub status_of_kind : ErrorKind → ℕ
status_of_kind DisplayHelp = 0
status_of_kind DisplayVersion = 0
status_of_kind _ = 2

-- the status is that of one of these kinds of clap's errors (`status_of_kind`)
abbrev pub IsExitStatus : Kinds → ℕ → Type 0
IsExitStatus kinds status = (kind : ErrorKind) × IsAmong kind kinds
    × (status ≡ status_of_kind kind)

-- the words are taken: clap finds no fault, and they name all that they ask about
abbrev pub IsTaken : Kinds → Given → Type 0
IsTaken kinds given = (kinds ≡ []) × NamesAll given

-- the status after words that are not taken: that of a kind of fault that clap finds; or 2, if it
-- finds none and they name too little (`NamesAll`)
abbrev pub IsTextStatus : Kinds → Given → ℕ → Type 0
IsTextStatus kinds given status =
    IsExitStatus kinds status ⊎ ((kinds ≡ []) × (¬ NamesAll given) × (status ≡ 2))
