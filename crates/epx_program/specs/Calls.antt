-- What the program's words ask for, and how the program ends.
use Rattle.std.specs.Prelude.{◌≡◌, ◌↔◌, ◌⊎◌, ⊤, ℕ, zero, suc, Bool, true, false, List, [], ◌∷◌}
use Rattle.std.specs.Prelude.{map, Option, Some, None, Result, Vec, MatchResult}
use Rattle.std.specs.Prelude.{codes, option_map, string_bytes}
use Rattle.std.specs.Io.KnownBytes.{Appends, Keeps}
use Rattle.std.specs.Vec.Iter.{into_iter_items}
use Rattle.std.specs.declared.alloc.Global.{Global}
use Rattle.std.specs.declared.io.Error.{Error}
use Rattle.std.specs.declared.string.String.{String}
use Rattle.std.specs.declared.vec.IntoIter.{IntoIter}
use Rattle.clap.specs.Words.{Text, fault_of, subcommand_of, takes}
use Rattle.epx_types.specs.Faults.{fault_status}
use Rattle.epx_types.specs.declared.fault.Fault.TheVariants.{Memory, Write}
use Rattle.epx_devices.specs.Transfers.{AppendsPrefix}
use Rattle.epx_words.specs.App.{epx_app}
use Rattle.epx_words.specs.Requests.{AsksFor, AsksToFollow, FitFlags, IfFollow, IfText, IfWork}
use Rattle.epx_words.specs.Requests.{IsBare, IsWork, flags_of}
use Rattle.epx_words.specs.SubcommandRows.{name_in, rows_in}
use Rattle.epx_words.specs.Subjects.{NamesAll}
use Rattle.epx_words.specs.ExitStatus.{IsTaken, IsTextStatus}
use Rattle.epx_names.specs.declared.task.Task.{Task}
use Rattle.epx_names.specs.declared.task.Task.TheVariants.{Run}
use Rattle.epx_words.specs.declared.words.Words.{Words}
use Rattle.epx_words.specs.declared.words.Words.TheVariants as asked
use Rattle.epx_program.specs.Endings.{AddsAnswer, AddsPart, EndsWith, IsAnswerStatus, IsStatus}
use Rattle.epx_program.specs.Endings.{answer_status}
use Rattle.epx_program.specs.FollowEndings.{EndsFollow}
use Rattle.epx_program.specs.Inputs.{AreTextsRead, IsInputAlone, TextRelation}
use Rattle.epx_program.specs.Saving.{SaveRelation}

-- the operating system's words are these texts; words that could not be read are no texts
abbrev pub AreTakenFor : Result (IntoIter (String Global) Global) Error → List Text → Type 0
AreTakenFor words texts = MatchResult words
    (λ given. map string_bytes (into_iter_items given) ≡ texts) (λ _. ⊥)

-- the operating system's words name the subcommand `follow`
abbrev pub NamesFollow : Result (IntoIter (String Global) Global) Error → Type 0
NamesFollow words = (texts : List Text) × AreTakenFor words texts
    × (name_in (subcommand_of epx_app texts) ≡ Some (codes "follow"))

-- the words ask to follow logs
abbrev pub IsFollow : Words → Type 0
IsFollow (asked.Work task plan paths) = ⊥
IsFollow (asked.WorkWith task plan paths flags) = ⊥
IsFollow (asked.Follow plan paths options) = ⊤
IsFollow (asked.Text text status) = ⊥

-- what the words ask for: without a subcommand the report of one log, standard input, with 4
-- workers and a cut of 256; otherwise the work of the subcommand, exactly if the words are taken
-- (`IsTaken`), or a text with its status
pub record Asks (words : List Text) (wanted : Words) : Type 0 where
  pub bare : IsBare words → wanted ≡ asked.Work Run (record { workers = 4; cut = 256 }) None
  -- with a subcommand, work and following are what clap finds in its words
  pub work : ¬ IsBare words → IfWork (AsksFor (subcommand_of epx_app words)) wanted
  pub follow : ¬ IsBare words → IfFollow (AsksToFollow (subcommand_of epx_app words)) wanted
  pub flags : ¬ IsBare words → IsWork wanted
      → FitFlags (flags_of wanted) (rows_in (subcommand_of epx_app words))
  -- work is wanted exactly if clap takes the words and they name all that they ask about
  pub taken : ¬ IsBare words
      → IsWork wanted ↔ IsTaken (fault_of epx_app words) (subcommand_of epx_app words)
  -- a text is wanted only if clap does not take the words, or they name too little
  pub text : ¬ IsBare words → IfText (λ status. ((takes epx_app words ≡ false)
      ⊎ (¬ NamesAll (subcommand_of epx_app words)))
      × IsTextStatus (fault_of epx_app words) (subcommand_of epx_app words) status) wanted

-- how the program ends after a text with this status: a text of status 0 is appended to the
-- output, or the output failed; any other text leaves the output unchanged
abbrev pub EndsWithText : List ℕ → ℕ → ℕ → Bool → Option (List ℕ) → Option (List ℕ) → Type 0
EndsWithText text zero status failed old new =
    ((status ≡ 0) × Appends old new text)
    ⊎ ((status ≡ fault_status Write) × (failed ≡ true) × AppendsPrefix old new text)
EndsWithText text (suc n) status failed old new = (status ≡ suc n) × Keeps old new

-- Status 0 or 5 (`answer_status`): the answer of the task to the texts that the paths have (`Is`)
-- is appended to the output (`old`, then `new`). Any other: that of a fault; of a run over `input`,
-- if only the input is read and is known. If the output `failed`, a prefix is appended
pub record EndsTask (input : Option (List ℕ)) (Unread : Type 0) (Is : TextRelation)
    (exit_code : Bool) (task : Task) (paths : Option (List (List ℕ))) (status : ℕ) (failed : Bool)
    (old new : Option (List ℕ)) : Type 0 where
  -- the status is that of an answer or of a fault
  pub ends : IsStatus status
  -- if only the input is read, it ends as the task over the bytes of the input
  pub over_input : (bytes : List ℕ) → IsInputAlone paths → input ≡ Some bytes
      → EndsWith exit_code task (bytes ∷ []) status old new
  -- over any paths, the status of an answer means that the answer to the texts that were read there
  -- is appended, and says what it finds
  pub answered : IsAnswerStatus status → (found : Bool) × (status ≡ answer_status exit_code found)
      × AddsAnswer task found (AreTextsRead Is paths) old new
  -- an output that failed has a prefix of the answer to these texts appended
  pub part : failed ≡ true → AddsPart task (AreTextsRead Is paths) old new
  -- if only the input is read, status 4 means that the output or a read of the input failed
  pub broken : IsInputAlone paths → status ≡ fault_status Write → (failed ≡ true) ⊎ Unread

-- the paths, as bytes
abbrev pub paths_of : Option (Vec (String Global) Global) → Option (List (List ℕ))
paths_of paths = option_map (λ list. map string_bytes list.items) paths

-- how the program ends, if its words want this: as a task over paths (`EndsTask`), as following
-- logs (`EndsFollow`), or with a text (`EndsWithText`)
abbrev pub EndsAsAsked : Option (List ℕ) → Type 0 → TextRelation → SaveRelation → Words → ℕ → Bool
    → Option (List ℕ) → Option (List ℕ) → Type 0
EndsAsAsked input Unread Is Saving (asked.Work task plan paths) status failed old new =
    EndsTask input Unread Is false task (paths_of paths) status failed old new
EndsAsAsked input Unread Is Saving (asked.WorkWith task plan paths flags) status failed old new =
    EndsTask input Unread Is flags.exit_code task (paths_of paths) status failed old new
EndsAsAsked input Unread Is Saving (asked.Follow plan paths options) status failed old new =
    EndsFollow Is Saving options (paths_of paths) status failed old new
EndsAsAsked input Unread Is Saving (asked.Text text n) status failed old new =
    EndsWithText (string_bytes text) n status failed old new

-- the program does what its words ask for, or ends because memory ran out
abbrev pub DoesAsAsked : Option (List ℕ) → Type 0 → TextRelation → SaveRelation → List Text → ℕ
    → Bool → Option (List ℕ) → Option (List ℕ) → Type 0
DoesAsAsked input Unread Is Saving words status failed old new =
    (status ≡ fault_status Memory)
    ⊎ ((wanted : Words) × Asks words wanted
    × EndsAsAsked input Unread Is Saving wanted status failed old new)
