-- What clap's matches ask for is what the words ask for, by the shape of the program.
use Rattle.std.proofs.Common.{◌≡◌, ◌↔◌, ◌∙◌, ℕ, Bool, true, false, List, [], ap, refl, subst, sym}
use Rattle.std.proofs.Common.{true≢false, codes, Option, Some, None, MatchOption}
use Rattle.epx_types.proofs.Common.{bytes_eq-Decides, bytes_eq, FitsKey, PlanNumbers}
use Rattle.epx_types.specs.declared.id.Id.{Id}
use Rattle.std.specs.Option.{IfSome}
use Rattle.clap.specs.Words.{App, Kinds, Row, Text, is_simple, subcommand_of}
use Rattle.epx_words.specs.App.{epx_app}
use Rattle.epx_words.specs.ExitStatus.{IsTaken}
use Rattle.epx_words.specs.Requests.{AsksFor, AsksToFollow, FitFlags, FitsRows, IfFollow, IfText}
use Rattle.epx_words.specs.Requests.{IfWork, IsMeaningOf, IsStepsOf, IsText, IsWork, flags_of}
use Rattle.epx_words.specs.Requests.{task_name}
use Rattle.epx_words.specs.Subjects.{ArePartNames, IsIdName, IsNameOf, IsNumberName, NameIds}
use Rattle.epx_words.specs.Subjects.{NamesAll, NamesLogs, NamesPart, NamesSubject}
use Rattle.epx_words.specs.SubcommandRows.{Given, HasFlag, first_in, name_in, rows_in, steps_in}
use Rattle.epx_names.specs.declared.task.Task.{Task}
use Rattle.epx_names.specs.declared.task.Task.TheVariants as task
use Rattle.epx_words.specs.declared.words.Words.{Words}
use Rattle.epx_words.specs.declared.words.Words.TheVariants as words
use Rattle.epx_words.proofs.FaultLemmas.{is_simple-epx_app}

-- ---- what is to name an instance, a key or a part names one

bytes_eq-false : (a b name : Text) → bytes_eq a b ≡ false → Some name ≡ Some a → ¬ (name ≡ b)
bytes_eq-false a b name differ is other =
    let same : a ≡ b = cc in
    true≢false (sym ((bytes_eq-Decides a b).1 same) ∙ differ)

-- a subcommand that is to name none of these
no_subject : (p : Text × List Row) (a : Text) → Some p.0 ≡ Some a
    → bytes_eq a (codes "why") ≡ false → bytes_eq a (codes "trace") ≡ false
    → bytes_eq a (codes "graph") ≡ false → NamesSubject (Some p)
no_subject p a is no_why no_trace no_graph = (
  λ e. absurd (bytes_eq-false a (codes "why") p.0 no_why is e),
  λ e. absurd (bytes_eq-false a (codes "trace") p.0 no_trace is e),
  λ e. absurd (bytes_eq-false a (codes "graph") p.0 no_graph is e),
)

id_named : (x : Id) (rows : List Row)
    → (text : Text) × (first_in rows ≡ Some text) × IsNameOf x text
    → MatchOption (first_in rows) ⊥ IsIdName
id_named x rows named = subst (λ o. MatchOption o ⊥ IsIdName) (sym named.1) (x, named.2)

-- the subcommand `why`, whose instances are named
ids_subject : (p : Text × List Row) → Some p.0 ≡ Some (codes "why") → NameIds p.1
    → NamesSubject (Some p)
ids_subject p is named = (
  λ e. named,
  λ e. absurd (bytes_eq-false (codes "why") (codes "trace") p.0 refl is e),
  λ e. absurd (bytes_eq-false (codes "why") (codes "graph") p.0 refl is e),
)

-- the subcommand `graph`, whose part is named
part_subject : (p : Text × List Row) → Some p.0 ≡ Some (codes "graph") → NamesPart p.1
    → NamesSubject (Some p)
part_subject p is named = (
  λ e. absurd (bytes_eq-false (codes "graph") (codes "why") p.0 refl is e),
  λ e. absurd (bytes_eq-false (codes "graph") (codes "trace") p.0 refl is e),
  λ e. named,
)

steps_named : (steps : Option Text) (n : ℕ) → IsStepsOf steps n
    → IfSome steps (λ far. (k : ℕ) × IsNumberName k far)
steps_named None n is = tt
steps_named (Some far) n is = (n, is)

subject_of : (t : Task) (p : Text × List Row) → Some p.0 ≡ Some (task_name t) → FitsRows t p.1
    → NamesSubject (Some p)
subject_of task.Run p is fits = no_subject p (codes "run") is refl refl refl
subject_of task.Order p is fits = no_subject p (codes "order") is refl refl refl
subject_of task.Levels p is fits = no_subject p (codes "levels") is refl refl refl
subject_of task.Blockers p is fits = no_subject p (codes "blockers") is refl refl refl
subject_of task.Graph p is fits =
    part_subject p is (subst (λ o. ArePartNames o (steps_in p.1)) (sym fits.0) fits.1)
subject_of (task.Around x steps) p is fits =
    part_subject p is (subst (λ o. ArePartNames o (steps_in p.1)) (sym fits.around.1)
    ((x, fits.around.2), steps_named (steps_in p.1) steps fits.within))
subject_of task.Resume p is fits = no_subject p (codes "resume") is refl refl refl
subject_of task.Audit p is fits = no_subject p (codes "audit") is refl refl refl
subject_of task.AuditAll p is fits = no_subject p (codes "audit") is refl refl refl
subject_of task.Check p is fits = no_subject p (codes "check") is refl refl refl
subject_of task.CheckPrefix p is fits = no_subject p (codes "check") is refl refl refl
subject_of task.Verify p is fits = no_subject p (codes "verify") is refl refl refl
subject_of (task.Linear skew) p is fits = no_subject p (codes "linear") is refl refl refl
subject_of task.Replay p is fits = no_subject p (codes "replay") is refl refl refl
subject_of task.Compare p is fits = no_subject p (codes "compare") is refl refl refl
subject_of (task.Why x) p is fits = ids_subject p is (
  id_named x p.1 fits.named,
  subst (λ o. IfSome o IsIdName) (sym fits.alone) tt,
)
subject_of (task.Path x y) p is fits = ids_subject p is (
  id_named x p.1 fits.from,
  subst (λ o. IfSome o IsIdName) (sym fits.to.1) (y, fits.to.2),
)
subject_of (task.Trace key reads) p is fits = (
  λ e. absurd (bytes_eq-false (codes "trace") (codes "why") p.0 refl is e),
  λ e. subst (λ o. MatchOption o ⊥ FitsKey) (sym fits.0) key.fits,
  λ e. absurd (bytes_eq-false (codes "trace") (codes "graph") p.0 refl is e),
)

names_subject : (given : Given) (t : Task) (plan : PlanNumbers) (paths : Option (List Text))
    → AsksFor given t plan paths → NamesSubject given
names_subject None t plan paths asks = tt
names_subject (Some p) t plan paths asks = subject_of t p asks.task asks.parts

-- the subcommand `follow` is about none of these, and has no status of its own
follow_names_all : (given : Given) → name_in given ≡ Some (codes "follow")
    → ¬ HasFlag (codes "exit-code") (rows_in given) → NamesAll given
follow_names_all None is no_code = (tt, λ has. absurd (no_code has))
follow_names_all (Some p) is no_code =
    (no_subject p (codes "follow") is refl refl refl, λ has. absurd (no_code has))

-- ---- the words as they are read

pub IsWork-iff_taken : (kinds : Kinds) (given : Given) (asked : Words) → kinds ≡ []
    → IsMeaningOf given asked → IsWork asked ↔ IsTaken kinds given
IsWork-iff_taken kinds given (words.Work t plan paths) none means = (
  λ work. (none, (names_subject given t plan _ means.0, means.2)),
  λ taken. tt,
)
IsWork-iff_taken kinds given (words.WorkWith t plan paths flags) none means = (
  λ work. (none, (names_subject given t plan _ means.0, means.2)),
  λ taken. tt,
)
IsWork-iff_taken kinds given (words.Follow plan paths options) none means = (
  λ work. (none, follow_names_all given means.0.name means.1),
  λ taken. tt,
)
IsWork-iff_taken kinds given (words.Text text status) none means = (
  λ work. absurd work,
  λ taken. means.0 taken.1,
)

module _ {Parsed : Type 0} (app : App) (is : app ≡ epx_app) (texts : List Text) (given : Given)
    (found : is_simple app ≡ true → Parsed × (given ≡ subcommand_of app texts)) where
  pub subcommand_of-given : given ≡ subcommand_of epx_app texts
  subcommand_of-given = (found (ap is_simple is ∙ is_simple-epx_app)).1
      ∙ ap (λ a. subcommand_of a texts) is

  pub IsMeaningOf-epx_app : (asked : Words) → IsMeaningOf given asked
      → IsMeaningOf (subcommand_of epx_app texts) asked
  IsMeaningOf-epx_app asked means = subst (λ g. IsMeaningOf g asked) subcommand_of-given means

module _ (given : Given) where
  -- what is asked for has each part of the work
  pub IfWork-has_part : (P : Task → PlanNumbers → Option (List Text) → Type 0)
      → ((t : Task) (plan : PlanNumbers) (paths : Option (List Text)) → AsksFor given t plan paths
      → P t plan paths) → (asked : Words) → IsMeaningOf given asked → IfWork P asked
  IfWork-has_part P part (words.Work t plan paths) means = part t plan _ means.0
  IfWork-has_part P part (words.WorkWith t plan paths flags) means = part t plan _ means.0
  IfWork-has_part P part (words.Follow plan paths options) means = tt
  IfWork-has_part P part (words.Text text status) means = tt

  pub FitFlags-asked : (asked : Words) → IsMeaningOf given asked → IsWork asked
      → FitFlags (flags_of asked) (rows_in given)
  FitFlags-asked (words.Work t plan paths) means work = means.1
  FitFlags-asked (words.WorkWith t plan paths flags) means work = means.1
  FitFlags-asked (words.Follow plan paths options) means work = record {
    exit_code = (λ e. absurd (true≢false (sym e)), λ has. absurd (means.1 has));
    explain = means.0.explain;
    quiet = means.0.quiet;
  }
  FitFlags-asked (words.Text text status) means work = absurd work

  pub IfFollow-asked : (asked : Words) → IsMeaningOf given asked
      → IfFollow (AsksToFollow given) asked
  IfFollow-asked (words.Work t plan paths) means = tt
  IfFollow-asked (words.WorkWith t plan paths flags) means = tt
  IfFollow-asked (words.Follow plan paths options) means = means.0
  IfFollow-asked (words.Text text status) means = tt

  pub IfText-not_all_named : (asked : Words) → IsMeaningOf given asked
      → IfText (λ status. (¬ NamesAll given) × (status ≡ 2)) asked
  IfText-not_all_named (words.Work t plan paths) means = tt
  IfText-not_all_named (words.WorkWith t plan paths flags) means = tt
  IfText-not_all_named (words.Follow plan paths options) means = tt
  IfText-not_all_named (words.Text text status) means = means

-- a refusal of words that ask for a status and name no log
pub IsMeaningOf-no_log : (given : Given) (rows : List Row) (named : Bool) (asked : Words)
    → rows_in given ≡ rows → (named ≡ true) ↔ NamesLogs rows → named ≡ false → IsText 2 asked
    → IsMeaningOf given asked
IsMeaningOf-no_log given rows named (words.Work t plan paths) are means none is = absurd is
IsMeaningOf-no_log given rows named (words.WorkWith t plan paths flags) are means none is =
    absurd is
IsMeaningOf-no_log given rows named (words.Follow plan paths options) are means none is = absurd is
IsMeaningOf-no_log given rows named (words.Text text status) are means none is =
    (λ all. true≢false (sym (means.1 (subst NamesLogs are all.1)) ∙ none), is)

-- a refusal of words that do not name what they are about
pub IsMeaningOf-no_subject : (given : Given) (p : Text × List Row) (asked : Words) → given ≡ Some p
    → ¬ NamesSubject (Some p) → IsText 2 asked → IsMeaningOf given asked
IsMeaningOf-no_subject given p (words.Work t plan paths) are none is = absurd is
IsMeaningOf-no_subject given p (words.WorkWith t plan paths flags) are none is = absurd is
IsMeaningOf-no_subject given p (words.Follow plan paths options) are none is = absurd is
IsMeaningOf-no_subject given p (words.Text text status) are none is =
    (λ all. none (subst NamesSubject are all.0), is)

-- what holds of each status of a text
pub IfText-weaker : (P Q : ℕ → Type 0) (asked : Words) → ((status : ℕ) → P status → Q status)
    → IfText P asked → IfText Q asked
IfText-weaker P Q (words.Work t plan paths) weaker h = tt
IfText-weaker P Q (words.WorkWith t plan paths flags) weaker h = tt
IfText-weaker P Q (words.Follow plan paths options) weaker h = tt
IfText-weaker P Q (words.Text text status) weaker h = weaker status h
