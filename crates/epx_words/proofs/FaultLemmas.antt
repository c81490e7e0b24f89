-- Words in which clap finds no fault name a subcommand that asks for work, with its numbers in
-- their ranges and with its required first argument.
use Rattle.std.proofs.Common.{◌≡◌, ◌∙◌, Bool, cond, true, false, codes, List, [], ◌∷◌, Option}
use Rattle.std.proofs.Common.{Some, None, refl, sym, subst, inl, inr, is_some, true≢false}
use Rattle.epx_types.proofs.Common.{bytes_eq-Decides, AllByRecursion, bytes_eq}
use Rattle.clap.specs.Faults.{check_fault, defaults_fault, entered_fault, fault_of}
use Rattle.clap.specs.Faults.{is_simple_and_free, level_fault, settle_fault, walk_fault}
use Rattle.clap.specs.Simple.{App, Shape, argument_words, built, built_leaf, entered, inherited}
use Rattle.clap.specs.Simple.{is_simple, marked_built, names_of, subcommand_of, with_leaf_noted}
use Rattle.clap.specs.Walk.{Row, Text, finished, nothing_held, one_of, rows_after, settled}
use Rattle.clap.specs.Walk.{stop_after, walk, walk_from}
use Rattle.clap.proofs.OnLiterals.{clap_on_literals}
use Rattle.epx_words.specs.App.{audit_app, base_app, epx_app, finding_app, follow_app, graph_app}
use Rattle.epx_words.specs.App.{input_app, linear_app, list_app, trace_app, why_app}
use Rattle.epx_words.specs.SubcommandRows.{AsksForWork, IsNumberIn, IsOneOf, IsTaskName, IsWorkName}
use Rattle.epx_words.specs.SubcommandRows.{NeedsFirst, first_names, max_skew, task_names}
use Rattle.epx_words.proofs.AbsentRowLemmas.{HasFlag-absent}
use Rattle.epx_words.proofs.KindLemmas.{or_else-nil_second, or_else-nil_first}
use Rattle.epx_words.proofs.StopLemmas.{IsKnownName, StopsAtWork, StopsAtWork-walk}
use Rattle.epx_words.proofs.SoundArgumentLemmas.{HasNumbers, IsFirstThere, all_to_logs}
use Rattle.epx_words.proofs.SoundArgumentLemmas.{Keeps-all_to_logs, around_to_logs}
use Rattle.epx_words.proofs.SoundArgumentLemmas.{Keeps-around_to_logs, code_to_first}
use Rattle.epx_words.proofs.SoundArgumentLemmas.{Keeps-code_to_first, code_to_logs}
use Rattle.epx_words.proofs.SoundArgumentLemmas.{Keeps-code_to_logs, each_to_logs}
use Rattle.epx_words.proofs.SoundArgumentLemmas.{Keeps-each_to_logs}
use Rattle.epx_words.proofs.SoundArgumentLemmas.{first_in-required, HasNumbers-level}
use Rattle.epx_words.proofs.SoundArgumentLemmas.{IsNumberIn-skew}
use Rattle.epx_words.proofs.SoundArgumentLemmas.{prefix_to_first, Keeps-prefix_to_first}
use Rattle.epx_words.proofs.SoundArgumentLemmas.{reaches_to_first, Keeps-reaches_to_first}
use Rattle.epx_words.proofs.SoundArgumentLemmas.{reads_to_first, Keeps-reads_to_first}
use Rattle.epx_words.proofs.SoundArgumentLemmas.{skew_to_first, Keeps-skew_to_first}
use Rattle.epx_words.proofs.SoundArgumentLemmas.{to_first, Keeps-to_first}

pub is_simple-epx_app : is_simple epx_app ≡ true
unfolding clap_on_literals
is_simple-epx_app = refl

pub is_simple_and_free-epx_app : is_simple_and_free epx_app ≡ true
unfolding clap_on_literals
is_simple_and_free-epx_app = refl

abbrev app : App
app = built epx_app

-- a subcommand as clap builds it
abbrev leaf_of : App → Shape
leaf_of work = built_leaf (inherited (with_leaf_noted (marked_built epx_app.top)) work.top)

-- a level of a subcommand in which clap finds no fault
abbrev IsFaultless : Shape → List Text → Type 0
IsFaultless shape rest = level_fault shape [] nothing_held rest false [] ≡ []

-- such a level ends with both numbers
module _ (name : Text) (rest : List Text) where
  graph_numbers : IsFaultless (leaf_of (graph_app name)) rest
      → HasNumbers (rows_after (leaf_of (graph_app name)).rules [] rest)
  graph_numbers none =
      HasNumbers-level (leaf_of (graph_app name)) around_to_logs refl refl Keeps-around_to_logs rest
      none

  audit_numbers : IsFaultless (leaf_of (audit_app name)) rest
      → HasNumbers (rows_after (leaf_of (audit_app name)).rules [] rest)
  audit_numbers none =
      HasNumbers-level (leaf_of (audit_app name)) all_to_logs refl refl Keeps-all_to_logs rest none

  finding_numbers : IsFaultless (leaf_of (finding_app name)) rest
      → HasNumbers (rows_after (leaf_of (finding_app name)).rules [] rest)
  finding_numbers none =
      HasNumbers-level (leaf_of (finding_app name)) code_to_logs refl refl Keeps-code_to_logs rest
      none

  base_numbers : IsFaultless (leaf_of (base_app name)) rest
      → HasNumbers (rows_after (leaf_of (base_app name)).rules [] rest)
  base_numbers none =
      HasNumbers-level (leaf_of (base_app name)) code_to_first refl refl Keeps-code_to_first rest
      none

  list_numbers : IsFaultless (leaf_of (list_app name)) rest
      → HasNumbers (rows_after (leaf_of (list_app name)).rules [] rest)
  list_numbers none =
      HasNumbers-level (leaf_of (list_app name)) prefix_to_first refl refl Keeps-prefix_to_first
      rest
      none

  linear_numbers : IsFaultless (leaf_of (linear_app name)) rest
      → HasNumbers (rows_after (leaf_of (linear_app name)).rules [] rest)
  linear_numbers none =
      HasNumbers-level (leaf_of (linear_app name)) skew_to_first refl refl Keeps-skew_to_first rest
      none

  linear_skew : IsFaultless (leaf_of (linear_app name)) rest
      → IsNumberIn 0 max_skew
      (one_of (codes "skew") (rows_after (leaf_of (linear_app name)).rules [] rest))
  linear_skew none =
      IsNumberIn-skew (leaf_of (linear_app name)) refl rest (linear_numbers none).sound

  input_numbers : IsFaultless (leaf_of (input_app name)) rest
      → HasNumbers (rows_after (leaf_of (input_app name)).rules [] rest)
  input_numbers none =
      HasNumbers-level (leaf_of (input_app name)) to_first refl refl Keeps-to_first rest none

  why_numbers : IsFaultless (leaf_of (why_app name)) rest
      → HasNumbers (rows_after (leaf_of (why_app name)).rules [] rest)
  why_numbers none =
      HasNumbers-level (leaf_of (why_app name)) reaches_to_first refl refl Keeps-reaches_to_first
      rest
      none

  trace_numbers : IsFaultless (leaf_of (trace_app name)) rest
      → HasNumbers (rows_after (leaf_of (trace_app name)).rules [] rest)
  trace_numbers none =
      HasNumbers-level (leaf_of (trace_app name)) reads_to_first refl refl Keeps-reads_to_first rest
      none

  follow_numbers : IsFaultless (leaf_of (follow_app name)) rest
      → HasNumbers (rows_after (leaf_of (follow_app name)).rules [] rest)
  follow_numbers none =
      HasNumbers-level (leaf_of (follow_app name)) each_to_logs refl refl Keeps-each_to_logs rest
      none

-- no required argument is missing where a level has no fault
nothing_missing : (shape : Shape) (rest : List Text)
    → level_fault shape [] nothing_held rest false [] ≡ []
    → check_fault shape (rows_after shape.rules [] rest) false ≡ []
nothing_missing shape rest none =
    let end = (walk shape.rules [] nothing_held rest).held in
    let walked = walk_fault shape [] (walk_from nothing_held) rest in
    let settles = settle_fault shape.rules shape.args_override_self end in
    let defaults = defaults_fault (settled shape.rules end).rows shape.rules in
    or_else-nil_second defaults _ (or_else-nil_second settles _ (or_else-nil_second walked _ none))

-- the text is none of these
abbrev is_none_of : Text → List Text → Bool
is_none_of name [] = true
is_none_of name (t ∷ ts) = cond (bytes_eq name t) false (is_none_of name ts)

not_one_of : (name : Text) (texts : List Text) → is_none_of name texts ≡ true → ¬ IsOneOf name texts
not_one_of name [] none is = is
not_one_of name (t ∷ ts) none is = go (bytes_eq name t) refl (not_one_of name ts) none is
  where
    go : (b : Bool) → bytes_eq name t ≡ b → (is_none_of name ts ≡ true → ¬ IsOneOf name ts)
        → cond b false (is_none_of name ts) ≡ true → ¬ IsOneOf name (t ∷ ts)
    go true e rest none is = true≢false (sym none)
    go false e rest none (inl same) = true≢false (sym ((bytes_eq-Decides name t).1 same) ∙ e)
    go false e rest none (inr later) = rest none later

-- the subcommand `follow` is no task
no_follow : (name : Text) → IsTaskName name → ¬ (name ≡ codes "follow")
no_follow name is e = not_one_of (codes "follow") task_names refl (subst IsTaskName e is)

-- two texts that differ
bytes_eq-false : (a b : Text) → bytes_eq a b ≡ false → ¬ (a ≡ b)
bytes_eq-false a b differ is = true≢false (sym ((bytes_eq-Decides a b).1 is) ∙ differ)

linear_first : NeedsFirst (codes "linear")
linear_first = inr (inr (inr (inl refl)))

-- the subcommand of a task asks for work if it has its numbers and, where it needs one, a first
-- argument
module _ (shape : Shape) (name : Text) (rest : List Text) (is : IsTaskName name)
    (numbers : HasNumbers (rows_after shape.rules [] rest)) where
  logs_work : ¬ NeedsFirst name → AsksForWork (Some (name, rows_after shape.rules [] rest))
  logs_work no_first = (
    inl is,
    numbers.workers,
    numbers.cut,
    λ has. absurd (no_first has),
    λ e. absurd (no_follow name is e),
    λ e. absurd (no_first (subst NeedsFirst (sym e) linear_first)),
  )

  first_work : (check_fault shape (rows_after shape.rules [] rest) false ≡ []
      → IsFirstThere (rows_after shape.rules [] rest))
      → (name ≡ codes "linear"
      → IsNumberIn 0 max_skew (one_of (codes "skew") (rows_after shape.rules [] rest)))
      → IsFaultless shape rest
      → AsksForWork (Some (name, rows_after shape.rules [] rest))
  first_work there skew none = (
    inl is,
    numbers.workers,
    numbers.cut,
    λ has. first_in-required (rows_after shape.rules [] rest)
        (there (nothing_missing shape rest none))
        numbers.sound,
    λ e. absurd (no_follow name is e),
    skew,
  )

-- a name that equals a known one asks for work if the known one does
named : (name known : Text) (rest : List Text) → name ≡ known
    → (entered_fault app (Some (known, rest)) ≡ []
    → AsksForWork (entered app (Some (known, rest))))
    → entered_fault app (Some (name, rest)) ≡ [] → AsksForWork (entered app (Some (name, rest)))
named name known rest is works none =
    subst (λ n. AsksForWork (entered app (Some (n, rest)))) (sym is)
    (works (subst (λ n. entered_fault app (Some (n, rest)) ≡ []) is none))

-- the names of the tasks
is_run : IsTaskName (codes "run")
is_run = inl refl

is_order : IsTaskName (codes "order")
is_order = inr (inl refl)

is_levels : IsTaskName (codes "levels")
is_levels = inr (inr (inl refl))

is_blockers : IsTaskName (codes "blockers")
is_blockers = inr (inr (inr (inl refl)))

is_graph : IsTaskName (codes "graph")
is_graph = inr (inr (inr (inr (inl refl))))

is_resume : IsTaskName (codes "resume")
is_resume = inr (inr (inr (inr (inr (inl refl)))))

is_audit : IsTaskName (codes "audit")
is_audit = inr (inr (inr (inr (inr (inr (inl refl))))))

is_check : IsTaskName (codes "check")
is_check = inr (inr (inr (inr (inr (inr (inr (inl refl)))))))

is_verify : IsTaskName (codes "verify")
is_verify = inr (inr (inr (inr (inr (inr (inr (inr (inl refl))))))))

is_linear : IsTaskName (codes "linear")
is_linear = inr (inr (inr (inr (inr (inr (inr (inr (inr (inl refl)))))))))

is_replay : IsTaskName (codes "replay")
is_replay = inr (inr (inr (inr (inr (inr (inr (inr (inr (inr (inl refl))))))))))

is_compare : IsTaskName (codes "compare")
is_compare = inr (inr (inr (inr (inr (inr (inr (inr (inr (inr (inr (inl refl)))))))))))

is_why : IsTaskName (codes "why")
is_why = inr (inr (inr (inr (inr (inr (inr (inr (inr (inr (inr (inr (inl refl))))))))))))

is_trace : IsTaskName (codes "trace")
is_trace = inr (inr (inr (inr (inr (inr (inr (inr (inr (inr (inr (inr (inr (inl refl)))))))))))))

no_first : (name : Text) → is_none_of name first_names ≡ true → ¬ NeedsFirst name
no_first name none = not_one_of name first_names none

-- the work of each subcommand
module _ (rest : List Text) where
  over_findings : (name : Text) → IsTaskName name → is_none_of name first_names ≡ true
      → IsFaultless (leaf_of (finding_app name)) rest
      → AsksForWork (Some (name, rows_after (leaf_of (finding_app name)).rules [] rest))
  over_findings name is no_input none = logs_work (leaf_of (finding_app name)) name rest is
      (finding_numbers name rest none) (no_first name no_input)

  abbrev follow_leaf : Shape
  follow_leaf = leaf_of (follow_app (codes "follow"))

  over_stream : IsFaultless follow_leaf rest
      → AsksForWork (Some (codes "follow", rows_after follow_leaf.rules [] rest))
  over_stream none =
      let numbers = follow_numbers (codes "follow") rest none in (
        inr refl,
        numbers.workers,
        numbers.cut,
        λ has. absurd (no_first (codes "follow") refl has),
        λ e. HasFlag-absent (codes "exit-code") follow_leaf
            (refl, (refl, (refl, (refl, (refl, (refl, (refl, (refl, (refl, tt))))))))) rest none,
        λ e. absurd (bytes_eq-false (codes "follow") (codes "linear") refl e),
      )

-- the names of the tasks from `check` on
abbrev later_names : List Text
later_names = codes "check" ∷ codes "verify" ∷ codes "linear" ∷ codes "replay" ∷ codes "compare"
    ∷ codes "why" ∷ codes "trace" ∷ []

later_works : (name : Text) (rest : List Text) → IsOneOf name later_names
    → entered_fault app (Some (name, rest)) ≡ [] → AsksForWork (entered app (Some (name, rest)))
later_works n rest (inl is) =
    named n (codes "check") rest is
    (λ none. first_work (leaf_of (list_app (codes "check"))) (codes "check") rest is_check
    (list_numbers (codes "check") rest none) (λ e. e)
    (λ e. absurd (bytes_eq-false (codes "check") (codes "linear") refl e)) none)
later_works n rest (inr (inl is)) =
    named n (codes "verify") rest is
    (λ none. first_work (leaf_of (base_app (codes "verify"))) (codes "verify") rest is_verify
    (base_numbers (codes "verify") rest none) (λ e. e)
    (λ e. absurd (bytes_eq-false (codes "verify") (codes "linear") refl e)) none)
later_works n rest (inr (inr (inl is))) =
    named n (codes "linear") rest is
    (λ none. first_work (leaf_of (linear_app (codes "linear"))) (codes "linear") rest is_linear
    (linear_numbers (codes "linear") rest none) (λ e. e)
    (λ e. linear_skew (codes "linear") rest none) none)
later_works n rest (inr (inr (inr (inl is)))) =
    named n (codes "replay") rest is
    (λ none. first_work (leaf_of (input_app (codes "replay"))) (codes "replay") rest is_replay
    (input_numbers (codes "replay") rest none) (λ e. e)
    (λ e. absurd (bytes_eq-false (codes "replay") (codes "linear") refl e)) none)
later_works n rest (inr (inr (inr (inr (inl is))))) =
    named n (codes "compare") rest is
    (over_findings rest (codes "compare") is_compare refl)
later_works n rest (inr (inr (inr (inr (inr (inl is)))))) =
    named n (codes "why") rest is
    (λ none. first_work (leaf_of (why_app (codes "why"))) (codes "why") rest is_why
    (why_numbers (codes "why") rest none) (λ e. e)
    (λ e. absurd (bytes_eq-false (codes "why") (codes "linear") refl e)) none)
later_works n rest (inr (inr (inr (inr (inr (inr (inl is))))))) =
    named n (codes "trace") rest is
    (λ none. first_work (leaf_of (trace_app (codes "trace"))) (codes "trace") rest is_trace
    (trace_numbers (codes "trace") rest none) (λ e. e)
    (λ e. absurd (bytes_eq-false (codes "trace") (codes "linear") refl e)) none)
later_works n rest (inr (inr (inr (inr (inr (inr (inr e))))))) = absurd e

task_works : (name : Text) (rest : List Text) → IsTaskName name
    → entered_fault app (Some (name, rest)) ≡ [] → AsksForWork (entered app (Some (name, rest)))
task_works n rest (inl is) =
    named n (codes "run") rest is
    (over_findings rest (codes "run") is_run refl)
task_works n rest (inr (inl is)) =
    named n (codes "order") rest is
    (over_findings rest (codes "order") is_order refl)
task_works n rest (inr (inr (inl is))) =
    named n (codes "levels") rest is
    (over_findings rest (codes "levels") is_levels refl)
task_works n rest (inr (inr (inr (inl is)))) =
    named n (codes "blockers") rest is
    (over_findings rest (codes "blockers") is_blockers refl)
task_works n rest (inr (inr (inr (inr (inl is))))) =
    named n (codes "graph") rest is
    (λ none. logs_work (leaf_of (graph_app (codes "graph"))) (codes "graph") rest is_graph
    (graph_numbers (codes "graph") rest none) (no_first (codes "graph") refl))
task_works n rest (inr (inr (inr (inr (inr (inl is)))))) =
    named n (codes "resume") rest is
    (λ none. first_work (leaf_of (base_app (codes "resume"))) (codes "resume") rest is_resume
    (base_numbers (codes "resume") rest none) (λ e. e)
    (λ e. absurd (bytes_eq-false (codes "resume") (codes "linear") refl e)) none)
task_works n rest (inr (inr (inr (inr (inr (inr (inl is))))))) =
    named n (codes "audit") rest is
    (λ none. logs_work (leaf_of (audit_app (codes "audit"))) (codes "audit") rest is_audit
    (audit_numbers (codes "audit") rest none) (no_first (codes "audit") refl))
task_works n rest (inr (inr (inr (inr (inr (inr (inr later))))))) = later_works n rest later

name_works : (name : Text) (rest : List Text) → IsWorkName name
    → entered_fault app (Some (name, rest)) ≡ [] → AsksForWork (entered app (Some (name, rest)))
name_works name rest (inl is) = task_works name rest is
name_works name rest (inr is) = named name (codes "follow") rest is (over_stream rest)

stop_works : (stop : Option (Text × List Text)) → StopsAtWork stop
    → is_some (entered app stop) ≡ true → entered_fault app stop ≡ []
    → AsksForWork (entered app stop)
stop_works None work there none = cc
stop_works (Some p) work there none = name_works p.0 p.1 work none

known : AllByRecursion (λ (l : Text × List Text). IsKnownName l.0) (names_of app)
known = (
  inl (inl is_run),
  (
    inl (inl is_order),
    (
      inl (inl is_levels),
      (
        inl (inl is_blockers),
        (
          inl (inl is_graph),
          (
            inl (inl is_resume),
            (
              inl (inl is_audit),
              (
                inl (inl is_check),
                (
                  inl (inl is_verify),
                  (
                    inl (inl is_linear),
                    (
                      inl (inl is_replay),
                      (
                        inl (inl is_compare),
                        (inl (inl is_why), (inl (inl is_trace), (inl (inr refl), (inr refl, tt)))),
                      ),
                    ),
                  ),
                ),
              ),
            ),
          ),
        ),
      ),
    ),
  ),
)

subcommand_there : (rows : List Row) (there : Bool) → check_fault app.top rows there ≡ []
    → there ≡ true
subcommand_there rows true none = refl
subcommand_there rows false none = cc

pub AsksForWork-if_faultless : (words : List Text) → fault_of epx_app words ≡ []
    → AsksForWork (subcommand_of epx_app words)
AsksForWork-if_faultless words none =
    let given = argument_words epx_app words in
    let stop = stop_after app.top.rules (names_of app) given in
    let end = (walk app.top.rules (names_of app) nothing_held given).held in
    let walked = walk_fault app.top (names_of app) (walk_from nothing_held) given in
    let below = entered_fault app stop in
    let settles = settle_fault app.top.rules app.top.args_override_self end in
    let defaults = defaults_fault (settled app.top.rules end).rows app.top.rules in
    let past_walk = or_else-nil_second walked _ none in
    let last = or_else-nil_second defaults _
    (or_else-nil_second settles _ (or_else-nil_second below _ past_walk)) in
    stop_works stop
    (StopsAtWork-walk app.top (names_of app) refl known (walk_from nothing_held) given
    (or_else-nil_first walked _ none) tt)
    (subcommand_there (finished app.top.rules end) (is_some (entered app stop)) last)
    (or_else-nil_first below _ past_walk)
