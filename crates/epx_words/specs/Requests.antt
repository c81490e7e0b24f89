-- What a command line asks for.
use Rattle.std.specs.Prelude.{◌≡◌, ◌≤◌, ◌⊎◌, ◌↔◌, ⊤, ℕ, true, false, List, ◌∷◌, Option}
use Rattle.std.specs.Prelude.{Some, None, codes, length, map, option_map, slice_get, string_bytes}
use Rattle.clap.specs.Words.{Row, Text}
use Rattle.epx_types.specs.Pieces.{PlanNumbers}
use Rattle.epx_types.specs.declared.id.Id.{Id}
use Rattle.epx_names.specs.declared.task.Task.{Task}
use Rattle.epx_names.specs.declared.task.Task.TheVariants as task
use Rattle.epx_words.specs.declared.words.Words.{Words}
use Rattle.epx_words.specs.declared.words.Words.TheVariants as words
use Rattle.epx_words.specs.declared.words.Flags.{Flags}
use Rattle.epx_words.specs.declared.words.FollowOptions.{FollowOptions}
use Rattle.epx_words.specs.SubcommandRows.{Given, HasFlag, IsCutOf, IsSkewOf, IsWorkersOf}
use Rattle.epx_words.specs.SubcommandRows.{around_in, first_in, logs_in, max_skew, name_in}
use Rattle.epx_words.specs.SubcommandRows.{reaches_in, rows_in, save_in, some_logs_in, state_in}
use Rattle.epx_words.specs.SubcommandRows.{steps_in}
use Rattle.epx_words.specs.Subjects.{IsNameOf, IsNumberName, NamesAll, NamesLogs}

-- the words are the program's name at most, or this and a hyphen: they name no subcommand
abbrev pub IsBare : List Text → Type 0
IsBare words = (length words ≤ 1)
    ⊎ ((length words ≡ 2) × (slice_get words 1 ≡ Some (codes "-")))

-- the name of the subcommand of a task
abbrev pub task_name : Task → Text
task_name task.Run = codes "run"
task_name task.Order = codes "order"
task_name task.Levels = codes "levels"
task_name task.Blockers = codes "blockers"
task_name task.Graph = codes "graph"
task_name (task.Around x steps) = codes "graph"
task_name task.Resume = codes "resume"
task_name task.Audit = codes "audit"
task_name task.AuditAll = codes "audit"
task_name task.Check = codes "check"
task_name task.CheckPrefix = codes "check"
task_name task.Verify = codes "verify"
task_name (task.Linear skew) = codes "linear"
task_name task.Replay = codes "replay"
task_name task.Compare = codes "compare"
task_name (task.Why x) = codes "why"
task_name (task.Path x y) = codes "why"
task_name (task.Trace key reads) = codes "trace"

-- the path of the first argument, and then the paths of the logs
abbrev pub AreFirstAndLogs : List Row → Option (List Text) → Type 0
AreFirstAndLogs rows paths = (first : Text) × (first_in rows ≡ Some first)
    × (paths ≡ Some (first ∷ logs_in rows))

-- the paths of a task: of its input besides the logs, if it has one, and then of its logs
abbrev pub ArePathsOf : Task → List Row → Option (List Text) → Type 0
ArePathsOf task.Resume rows paths = AreFirstAndLogs rows paths
ArePathsOf task.Check rows paths = AreFirstAndLogs rows paths
ArePathsOf task.CheckPrefix rows paths = AreFirstAndLogs rows paths
ArePathsOf task.Verify rows paths = AreFirstAndLogs rows paths
ArePathsOf (task.Linear skew) rows paths = AreFirstAndLogs rows paths
ArePathsOf task.Replay rows paths = AreFirstAndLogs rows paths
ArePathsOf _ rows paths = paths ≡ Some (logs_in rows)

-- x is named by the first argument, and y by the option `--reaches`
pub record NamePath (x y : Id) (rows : List Row) : Type 0 where
  pub from : (text : Text) × (first_in rows ≡ Some text) × IsNameOf x text
  pub to : (text : Text) × (reaches_in rows ≡ Some text) × IsNameOf y text

-- x is named by the first argument, and the option `--reaches` is not there
pub record NamesOne (x : Id) (rows : List Row) : Type 0 where
  pub named : (text : Text) × (first_in rows ≡ Some text) × IsNameOf x text
  pub alone : reaches_in rows ≡ None

-- n is the number in the option `--steps`, or 1 if the option is not there
abbrev pub IsStepsOf : Option Text → ℕ → Type 0
IsStepsOf None n = n ≡ 1
IsStepsOf (Some text) n = IsNumberName n text

-- `--around` names x, and `--steps` the number of steps, which is 1 if this option is not there
pub record NamesAround (x : Id) (steps : ℕ) (rows : List Row) : Type 0 where
  pub around : (text : Text) × (around_in rows ≡ Some text) × IsNameOf x text
  pub within : IsStepsOf (steps_in rows) steps

-- the task is the one that the arguments ask for: with `--around` and `--steps` in `graph`, `--all`
-- in `audit`, `--prefix` in `check`, `--skew` in `linear`, an instance and `--reaches` in `why`,
-- and a key and `--reads` in `trace`
abbrev pub FitsRows : Task → List Row → Type 0
FitsRows task.Graph rows = (around_in rows ≡ None) × (steps_in rows ≡ None)
FitsRows (task.Around x steps) rows = NamesAround x steps rows
FitsRows task.Audit rows = ¬ HasFlag (codes "all") rows
FitsRows task.AuditAll rows = HasFlag (codes "all") rows
FitsRows task.Check rows = ¬ HasFlag (codes "prefix") rows
FitsRows task.CheckPrefix rows = HasFlag (codes "prefix") rows
FitsRows (task.Linear skew) rows = IsSkewOf rows skew × (skew ≤ max_skew)
FitsRows (task.Why x) rows = NamesOne x rows
FitsRows (task.Path x y) rows = NamePath x y rows
FitsRows (task.Trace key reads) rows = (first_in rows ≡ Some key.text.bytes)
    × ((reads ≡ true) ↔ HasFlag (codes "reads") rows)
FitsRows _ rows = ⊤

-- if the words ask for a task, P holds of it, the plan and the paths
abbrev pub IfWork : (Task → PlanNumbers → Option (List Text) → Type 0) → Words → Type 0
IfWork P (words.Work task plan paths) =
    P task plan (option_map (λ list. map string_bytes list.items) paths)
IfWork P (words.WorkWith task plan paths flags) =
    P task plan (option_map (λ list. map string_bytes list.items) paths)
IfWork P (words.Follow plan paths options) = ⊤
IfWork P (words.Text text status) = ⊤

-- if the words ask to follow logs, P holds of the plan, the paths and the options
abbrev pub IfFollow : (PlanNumbers → Option (List Text) → FollowOptions → Type 0) → Words → Type 0
IfFollow P (words.Work task plan paths) = ⊤
IfFollow P (words.WorkWith task plan paths flags) = ⊤
IfFollow P (words.Follow plan paths options) =
    P plan (option_map (λ list. map string_bytes list.items) paths) options
IfFollow P (words.Text text status) = ⊤

-- the words ask for a task, or to follow logs, and not for a text
abbrev pub IsWork : Words → Type 0
IsWork (words.Work task plan paths) = ⊤
IsWork (words.WorkWith task plan paths flags) = ⊤
IsWork (words.Follow plan paths options) = ⊤
IsWork (words.Text text status) = ⊥

-- none of the flags is there
abbrev pub no_flags : Flags
no_flags = record { exit_code = false; explain = false; quiet = false }

-- the flags of the words; `Work` and a text have none, and following logs has no `--exit-code`
abbrev pub flags_of : Words → Flags
flags_of (words.Work task plan paths) = no_flags
flags_of (words.WorkWith task plan paths flags) = flags
flags_of (words.Follow plan paths options) =
    record { exit_code = false; explain = options.explain; quiet = options.quiet }
flags_of (words.Text text status) = no_flags

-- the flags are those that the rows have
pub record FitFlags (flags : Flags) (rows : List Row) : Type 0 where
  pub exit_code : (flags.exit_code ≡ true) ↔ HasFlag (codes "exit-code") rows
  pub explain : (flags.explain ≡ true) ↔ HasFlag (codes "explain") rows
  pub quiet : (flags.quiet ≡ true) ↔ HasFlag (codes "quiet") rows

-- if the words ask for a text, P holds of the status
abbrev pub IfText : (ℕ → Type 0) → Words → Type 0
IfText P (words.Work task plan paths) = ⊤
IfText P (words.WorkWith task plan paths flags) = ⊤
IfText P (words.Follow plan paths options) = ⊤
IfText P (words.Text text status) = P status

-- the words ask for a text with this status
abbrev pub IsText : ℕ → Words → Type 0
IsText n (words.Work task plan paths) = ⊥
IsText n (words.WorkWith task plan paths flags) = ⊥
IsText n (words.Follow plan paths options) = ⊥
IsText n (words.Text text status) = status ≡ n

-- the subcommand asks for this task, with these values of `--workers` and `--cut`, over these paths
pub record AsksFor (given : Given) (asked : Task) (cutting : PlanNumbers)
    (logs : Option (List Text)) : Type 0 where
  pub task : name_in given ≡ Some (task_name asked)
  pub workers : IsWorkersOf (rows_in given) cutting.workers
  pub cut : IsCutOf (rows_in given) cutting.cut
  pub paths : ArePathsOf asked (rows_in given) logs
  pub parts : FitsRows asked (rows_in given)

-- the subcommand is `follow`, and asks for these values of `--workers` and `--cut`, these logs,
-- which are None if none is named, and these options
pub record AsksToFollow (given : Given) (cutting : PlanNumbers) (logs : Option (List Text))
    (options : FollowOptions) : Type 0 where
  pub name : name_in given ≡ Some (codes "follow")
  pub workers : IsWorkersOf (rows_in given) cutting.workers
  pub cut : IsCutOf (rows_in given) cutting.cut
  pub paths : logs ≡ some_logs_in (rows_in given)
  pub each : (options.each ≡ true) ↔ HasFlag (codes "each") (rows_in given)
  pub explain : (options.explain ≡ true) ↔ HasFlag (codes "explain") (rows_in given)
  pub quiet : (options.quiet ≡ true) ↔ HasFlag (codes "quiet") (rows_in given)
  pub state : option_map string_bytes options.state ≡ state_in (rows_in given)
  pub save : option_map string_bytes options.save ≡ save_in (rows_in given)

-- the words ask for the work that the subcommand asks for, with its flags, and name a log if
-- `--exit-code` is there; or they are refused with status 2, since they do not name all that they
-- ask about
abbrev pub IsMeaningOf : Given → Words → Type 0
IsMeaningOf given (words.Work task plan paths) =
    AsksFor given task plan (option_map (λ list. map string_bytes list.items) paths)
    × FitFlags no_flags (rows_in given) × NamesLogs (rows_in given)
IsMeaningOf given (words.WorkWith task plan paths flags) =
    AsksFor given task plan (option_map (λ list. map string_bytes list.items) paths)
    × FitFlags flags (rows_in given) × NamesLogs (rows_in given)
IsMeaningOf given (words.Follow plan paths options) =
    AsksToFollow given plan (option_map (λ list. map string_bytes list.items) paths) options
    × (¬ HasFlag (codes "exit-code") (rows_in given))
IsMeaningOf given (words.Text text status) = (¬ NamesAll given) × (status ≡ 2)
