-- Each argument of a subcommand keeps the rows sound. After the defaults both numbers have rows,
-- and so has a required first argument.
use Rattle.std.proofs.Common.{◌≡◌, ◌==◌, ◌||◌, ℕ, Bool, cond, true, false, not, codes, List, []}
use Rattle.std.proofs.Common.{◌∷◌, ◌∙◌, length, refl, sym, subst, true≢false, eqb-true, arith}
use Rattle.epx_types.proofs.Common.{AllByRecursion, fold, IsSome, bytes_eq}
use Rattle.clap.specs.Kinds.{range_kinds, value_kinds}
use Rattle.clap.specs.Faults.{action_fault, level_fault, repeat_fault}
use Rattle.clap.specs.Simple.{Shape, filled, help_rule, with_index}
use Rattle.clap.specs.Takes.{is_given}
use Rattle.clap.specs.ValueTests.{is_unsigned_in}
use Rattle.clap.specs.Values.{IsUnsignedIn}
use Rattle.clap.specs.Walk.{Row, Rule, Text, has_row, nothing_held, one_of, rows_after, settled}
use Rattle.clap.specs.Walk.{values_or_missing, used, walk, with_default, without}
use Rattle.clap.specs.declared.builder.action.ArgAction.TheVariants.{Set}
use Rattle.clap.specs.declared.builder.value_parser.Reading.TheVariants.{AsWritten}
use Rattle.clap.specs.declared.builder.value_parser.ValueParser.TheVariants.{Unsigned}
use Rattle.clap.specs.declared.error.kind.ErrorKind.TheVariants.{InvalidValue}
use Rattle.clap.specs.declared.error.kind.ErrorKind.TheVariants.{MissingRequiredArgument}
use Rattle.clap.specs.declared.error.kind.ErrorKind.TheVariants.{ValueValidation}
use Rattle.clap.specs.declared.error.kind.ErrorKind.TheVariants.{WrongNumberOfValues}
use Rattle.clap.specs.declared.parser.matches.ValueSource.{ValueSource}
use Rattle.clap.specs.declared.parser.matches.ValueSource.TheVariants.{CommandLine, DefaultValue}
use Rattle.clap.proofs.ValueTestLemmas.{accepts-Accepts}
use Rattle.epx_words.specs.App.{first_rule, flag_rule, logs_rule, number_rule, text_rule}
use Rattle.epx_words.specs.SubcommandRows.{IsNumberIn, first_in, max_skew}
use Rattle.epx_words.proofs.KindLemmas.{or_else-nil_second, or_else-nil_first}
use Rattle.epx_words.proofs.SoundRowLemmas.{AreSound, IsSoundRow, first_in-given, has_row-default}
use Rattle.epx_words.proofs.SoundRowLemmas.{has_row-kept, AreSound-with_default, new_row}
use Rattle.epx_words.proofs.SoundRowLemmas.{with_default-none}
use Rattle.epx_words.proofs.SoundRowLemmas.{IsNumberIn-read, AreSound-with_values}
use Rattle.epx_words.proofs.KeptRowLemmas.{KeepsRows, AreKept-level, without-kept}

-- the arguments of a subcommand, as clap fills them in
abbrev workers_leaf : Rule
workers_leaf = filled (number_rule (codes "workers") (codes "4") 1 64)

abbrev cut_leaf : Rule
cut_leaf = filled (number_rule (codes "cut") (codes "256") 1 65536)

abbrev skew_leaf : Rule
skew_leaf = filled (number_rule (codes "skew") (codes "0") 0 max_skew)

abbrev first_leaf : Rule
first_leaf = with_index 1 (filled first_rule)

abbrev logs_leaf : ℕ → Rule
logs_leaf i = with_index i (filled logs_rule)

abbrev flag_leaf : Text → Rule
flag_leaf name = filled (flag_rule name)

abbrev text_leaf : Text → Rule
text_leaf name = filled (text_rule name)

-- what each subcommand begins with: its numbers and the flags that all have
abbrev pub numbers_and : List Rule → List Rule
numbers_and rest =
    workers_leaf ∷ cut_leaf ∷ flag_leaf (codes "explain") ∷ flag_leaf (codes "quiet") ∷ rest

-- what follows: the logs, or a first argument and the logs, each with or without further flags and
-- options whose values are texts or a number
abbrev to_logs : List Rule
to_logs = logs_leaf 1 ∷ filled help_rule ∷ []

abbrev pub to_first : List Rule
to_first = first_leaf ∷ logs_leaf 2 ∷ filled help_rule ∷ []

abbrev pub code_to_logs : List Rule
code_to_logs = flag_leaf (codes "exit-code") ∷ to_logs

abbrev pub all_to_logs : List Rule
all_to_logs = flag_leaf (codes "exit-code") ∷ flag_leaf (codes "all") ∷ to_logs

abbrev pub around_to_logs : List Rule
around_to_logs = text_leaf (codes "around") ∷ text_leaf (codes "steps") ∷ to_logs

abbrev pub code_to_first : List Rule
code_to_first = flag_leaf (codes "exit-code") ∷ to_first

abbrev pub prefix_to_first : List Rule
prefix_to_first = flag_leaf (codes "exit-code") ∷ flag_leaf (codes "prefix") ∷ to_first

abbrev pub skew_to_first : List Rule
skew_to_first = flag_leaf (codes "exit-code") ∷ skew_leaf ∷ to_first

abbrev pub reaches_to_first : List Rule
reaches_to_first = text_leaf (codes "reaches") ∷ to_first

abbrev pub reads_to_first : List Rule
reads_to_first = flag_leaf (codes "reads") ∷ to_first

abbrev pub each_to_logs : List Rule
each_to_logs =
    flag_leaf (codes "each") ∷ text_leaf (codes "state") ∷ text_leaf (codes "save") ∷ to_logs

-- each use of the argument keeps the rows sound
abbrev KeepsSound : Bool → Rule → Type 0
KeepsSound = KeepsRows IsSoundRow

-- ---- a number

one_value : (n : ℕ) → range_kinds 1 1 n ≡ [] → n ≡ 1
one_value n none = go (n == 0) (1 == n) refl none
  where
    go : (empty one : Bool) → (1 == n) ≡ one
        → cond empty (InvalidValue ∷ []) (cond one [] (WrongNumberOfValues ∷ [])) ≡ [] → n ≡ 1
    go true one is e = cc
    go false true is e = sym (eqb-true 1 n is)
    go false false is e = cc

passed : (least most : ℕ) (v : Text) → value_kinds false (Unsigned least most) v ≡ []
    → IsUnsignedIn least most v
passed least most v none = go (is_unsigned_in least most v) refl none
  where
    go : (b : Bool) → is_unsigned_in least most v ≡ b → cond b [] (ValueValidation ∷ []) ≡ []
        → IsUnsignedIn least most v
    go true is e = accepts-Accepts false (Unsigned least most) v is
    go false is e = cc

-- the number's row is sound if the number is in its range
abbrev FitsRow : Text → ℕ → ℕ → Type 0
FitsRow name least most = (s : ValueSource) (v : Text) → IsUnsignedIn least most v
    → IsSoundRow (new_row name AsWritten s (v ∷ []))

workers_fit : FitsRow (codes "workers") 1 64
workers_fit s v h = (
  λ e. (refl, h),
  λ e. absurd (true≢false (sym e)),
  λ e. tt,
  λ e. absurd (true≢false (sym e)),
)

cut_fits : FitsRow (codes "cut") 1 65536
cut_fits s v h = (
  λ e. absurd (true≢false (sym e)),
  λ e. (refl, h),
  λ e. tt,
  λ e. absurd (true≢false (sym e)),
)

skew_fits : FitsRow (codes "skew") 0 max_skew
skew_fits s v h = (
  λ e. absurd (true≢false (sym e)),
  λ e. absurd (true≢false (sym e)),
  λ e. tt,
  λ e. (refl, h),
)

module _ (name default : Text) (least most : ℕ) (fits : FitsRow name least most) (again : Bool)
  where
    abbrev leaf : Rule
    leaf = filled (number_rule name default least most)

    one_keeps : (values : List Text) (rows : List Row) → length values ≡ 1
        → action_fault Set again leaf (values_or_missing leaf values) rows ≡ [] → AreSound rows
        → AreSound (used leaf values rows)
    one_keeps [] rows one none ok = absurd (omega arith)
    one_keeps (v ∷ w ∷ vs) rows one none ok = absurd (omega arith)
    one_keeps (v ∷ []) rows one none ok =
        let value = or_else-nil_first (value_kinds false (Unsigned least most) v) []
        (or_else-nil_second (repeat_fault again name rows) _ none) in
        AreSound-with_values name AsWritten CommandLine (v ∷ []) (without name rows)
        (fits CommandLine v (passed least most v value)) (without-kept IsSoundRow name rows ok)

    number_keeps : KeepsSound again leaf
    number_keeps values rows none ok =
        let range = range_kinds 1 1 (length values) in
        one_keeps values rows (one_value (length values) (or_else-nil_first range _ none))
        (or_else-nil_second range _ none) ok

-- ---- the other arguments

logs_keep : (again : Bool) (i : ℕ) → KeepsSound again (logs_leaf i)
logs_keep again i values rows none ok =
    AreSound-with_values (codes "logs") AsWritten CommandLine
    (values_or_missing (logs_leaf i) values) rows (
      λ e. absurd (true≢false (sym e)),
      λ e. absurd (true≢false (sym e)),
      λ e. absurd (true≢false (sym e)),
      λ e. absurd (true≢false (sym e)),
    ) ok

first_kept : (values : List Text) (rows : List Row) → length values ≡ 1 → AreSound rows
    → AreSound (used first_leaf values rows)
first_kept [] rows one ok = absurd (omega arith)
first_kept (v ∷ w ∷ vs) rows one ok = absurd (omega arith)
first_kept (v ∷ []) rows one ok =
    AreSound-with_values (codes "first") AsWritten CommandLine (v ∷ [])
    (without (codes "first") rows) (
      λ e. absurd (true≢false (sym e)),
      λ e. absurd (true≢false (sym e)),
      λ e. tt,
      λ e. absurd (true≢false (sym e)),
    )
    (without-kept IsSoundRow (codes "first") rows ok)

first_keeps : (again : Bool) → KeepsSound again first_leaf
first_keeps again values rows none ok =
    first_kept values rows
    (one_value (length values) (or_else-nil_first (range_kinds 1 1 (length values)) _ none)) ok

-- the default of an argument keeps the rows sound
abbrev pub DefaultKeeps : Rule → Type 0
DefaultKeeps a = (rows : List Row) → AreSound rows → AreSound (with_default rows a)

-- rows of all other arguments are sound
module _ (name : Text) (no_workers : bytes_eq name (codes "workers") ≡ false)
    (no_cut : bytes_eq name (codes "cut") ≡ false)
    (no_first : bytes_eq name (codes "first") ≡ false)
    (no_skew : bytes_eq name (codes "skew") ≡ false) where
  other_sound : (s : ValueSource) (values : List Text)
      → IsSoundRow (new_row name AsWritten s values)
  other_sound s values = (
    λ e. absurd (true≢false (sym e ∙ no_workers)),
    λ e. absurd (true≢false (sym e ∙ no_cut)),
    λ e. absurd (true≢false (sym e ∙ no_first)),
    λ e. absurd (true≢false (sym e ∙ no_skew)),
  )

  flag_keeps : (again : Bool) → KeepsSound again (flag_leaf name)
  flag_keeps again values rows none ok =
      AreSound-with_values name AsWritten CommandLine (values_or_missing (flag_leaf name) values)
      (without name rows) (other_sound CommandLine (values_or_missing (flag_leaf name) values))
      (without-kept IsSoundRow name rows ok)

  flag_default_keeps : DefaultKeeps (flag_leaf name)
  flag_default_keeps rows ok = AreSound-with_default (flag_leaf name) (codes "false") [] rows refl
      (other_sound DefaultValue (codes "false" ∷ [])) ok

  text_keeps : (again : Bool) → KeepsSound again (text_leaf name)
  text_keeps again values rows none ok =
      AreSound-with_values name AsWritten CommandLine (values_or_missing (text_leaf name) values)
      (without name rows) (other_sound CommandLine (values_or_missing (text_leaf name) values))
      (without-kept IsSoundRow name rows ok)

help_keeps : (again : Bool) → KeepsSound again (filled help_rule)
help_keeps again values rows none ok = ok

no_default_keeps : (a : Rule) → a.defaults ≡ [] → DefaultKeeps a
no_default_keeps a none rows ok = subst AreSound (sym (with_default-none a rows none)) ok

-- an argument that keeps rows sound, used or not
abbrev pub Keeps : Rule → Type 0
Keeps a = KeepsSound true a × DefaultKeeps a

flag_is_kept : (name : Text) → bytes_eq name (codes "workers") ≡ false
    → bytes_eq name (codes "cut") ≡ false → bytes_eq name (codes "first") ≡ false
    → bytes_eq name (codes "skew") ≡ false → Keeps (flag_leaf name)
flag_is_kept name workers cut first skew =
    (flag_keeps name workers cut first skew true, flag_default_keeps name workers cut first skew)

text_is_kept : (name : Text) → bytes_eq name (codes "workers") ≡ false
    → bytes_eq name (codes "cut") ≡ false → bytes_eq name (codes "first") ≡ false
    → bytes_eq name (codes "skew") ≡ false → Keeps (text_leaf name)
text_is_kept name workers cut first skew =
    (text_keeps name workers cut first skew true, no_default_keeps (text_leaf name) refl)

to_logs_keep : AllByRecursion Keeps to_logs
to_logs_keep = (
  (logs_keep true 1, no_default_keeps (logs_leaf 1) refl),
  ((help_keeps true, no_default_keeps (filled help_rule) refl), tt),
)

pub Keeps-to_first : AllByRecursion Keeps to_first
Keeps-to_first = (
  (first_keeps true, no_default_keeps first_leaf refl),
  (
    (logs_keep true 2, no_default_keeps (logs_leaf 2) refl),
    ((help_keeps true, no_default_keeps (filled help_rule) refl), tt),
  ),
)

pub Keeps-code_to_logs : AllByRecursion Keeps code_to_logs
Keeps-code_to_logs = (flag_is_kept (codes "exit-code") refl refl refl refl, to_logs_keep)

pub Keeps-all_to_logs : AllByRecursion Keeps all_to_logs
Keeps-all_to_logs = (
  flag_is_kept (codes "exit-code") refl refl refl refl,
  (flag_is_kept (codes "all") refl refl refl refl, to_logs_keep),
)

pub Keeps-around_to_logs : AllByRecursion Keeps around_to_logs
Keeps-around_to_logs = (
  text_is_kept (codes "around") refl refl refl refl,
  (text_is_kept (codes "steps") refl refl refl refl, to_logs_keep),
)

pub Keeps-code_to_first : AllByRecursion Keeps code_to_first
Keeps-code_to_first = (flag_is_kept (codes "exit-code") refl refl refl refl, Keeps-to_first)

pub Keeps-prefix_to_first : AllByRecursion Keeps prefix_to_first
Keeps-prefix_to_first = (
  flag_is_kept (codes "exit-code") refl refl refl refl,
  (flag_is_kept (codes "prefix") refl refl refl refl, Keeps-to_first),
)

-- the default of the skew is in its range
zero_fits : IsUnsignedIn 0 max_skew (codes "0")
zero_fits = accepts-Accepts false (Unsigned 0 max_skew) (codes "0") refl

skew_is_kept : Keeps skew_leaf
skew_is_kept = (
  number_keeps (codes "skew") (codes "0") 0 max_skew skew_fits true,
  λ rows ok. AreSound-with_default skew_leaf (codes "0") [] rows refl
      (skew_fits DefaultValue (codes "0") zero_fits) ok,
)

pub Keeps-skew_to_first : AllByRecursion Keeps skew_to_first
Keeps-skew_to_first = (
  flag_is_kept (codes "exit-code") refl refl refl refl,
  (skew_is_kept, Keeps-to_first),
)

pub Keeps-reaches_to_first : AllByRecursion Keeps reaches_to_first
Keeps-reaches_to_first = (text_is_kept (codes "reaches") refl refl refl refl, Keeps-to_first)

pub Keeps-reads_to_first : AllByRecursion Keeps reads_to_first
Keeps-reads_to_first = (flag_is_kept (codes "reads") refl refl refl refl, Keeps-to_first)

pub Keeps-each_to_logs : AllByRecursion Keeps each_to_logs
Keeps-each_to_logs = (
  flag_is_kept (codes "each") refl refl refl refl,
  (
    text_is_kept (codes "state") refl refl refl refl,
    (text_is_kept (codes "save") refl refl refl refl, to_logs_keep),
  ),
)

uses_keep : (rules : List Rule) → AllByRecursion Keeps rules
    → AllByRecursion (KeepsSound true) rules
uses_keep [] keep = tt
uses_keep (a ∷ rest) keep = (keep.0.0, uses_keep rest keep.1)

numbers_and_keep : (rest : List Rule) → AllByRecursion Keeps rest
    → AllByRecursion (KeepsSound true) (numbers_and rest)
numbers_and_keep rest keep = (
  number_keeps (codes "workers") (codes "4") 1 64 workers_fit true,
  (
    number_keeps (codes "cut") (codes "256") 1 65536 cut_fits true,
    (
      (flag_is_kept (codes "explain") refl refl refl refl).0,
      ((flag_is_kept (codes "quiet") refl refl refl refl).0, uses_keep rest keep),
    ),
  ),
)

-- ---- the end of a level

-- the rows are sound, and both numbers have rows
pub record HasNumbers (rows : List Row) : Type 0 where
  pub workers : IsNumberIn 1 64 (one_of (codes "workers") rows)
  pub cut : IsNumberIn 1 65536 (one_of (codes "cut") rows)
  pub sound : AreSound rows

-- both numbers have rows, and the rows are sound
record BothHaveRows (rows : List Row) : Type 0 where
  workers : has_row (codes "workers") rows ≡ true
  cut : has_row (codes "cut") rows ≡ true
  sound : AreSound rows

-- more defaults keep them
defaults_keep : (rest : List Rule) (rows : List Row) → AllByRecursion Keeps rest
    → BothHaveRows rows → BothHaveRows (fold with_default rows rest)
defaults_keep [] rows keep h = h
defaults_keep (a ∷ rest) rows keep h = defaults_keep rest (with_default rows a) keep.1 (record {
  workers = has_row-kept (codes "workers") a rows h.workers;
  cut = has_row-kept (codes "cut") a rows h.cut;
  sound = keep.0.1 rows h.sound;
})

numbers_have_rows : (rest : List Rule) → AllByRecursion Keeps rest → (rows : List Row)
    → AreSound rows → HasNumbers (fold with_default rows (numbers_and rest))
numbers_have_rows rest keep rows ok =
    let one = with_default rows workers_leaf in
    let two = with_default one cut_leaf in
    let one_sound = AreSound-with_default workers_leaf (codes "4") [] rows refl
    (workers_fit DefaultValue (codes "4")
    (accepts-Accepts false (Unsigned 1 64) (codes "4") refl)) ok in
    let two_sound = AreSound-with_default cut_leaf (codes "256") [] one refl
    (cut_fits DefaultValue (codes "256")
    (accepts-Accepts false (Unsigned 1 65536) (codes "256") refl)) one_sound in
    let workers_has = has_row-kept (codes "workers") cut_leaf one
    (has_row-default workers_leaf (codes "4") [] rows refl refl) in
    let cut_has = has_row-default cut_leaf (codes "256") [] one refl refl in
    let more = flag_leaf (codes "explain") ∷ flag_leaf (codes "quiet") ∷ rest in
    let all = fold with_default two more in
    let flags_keep : AllByRecursion Keeps more = (
      flag_is_kept (codes "explain") refl refl refl refl,
      (flag_is_kept (codes "quiet") refl refl refl refl, keep),
    ) in
    let end = defaults_keep more two flags_keep
    (record { workers = workers_has; cut = cut_has; sound = two_sound }) in
    record {
      workers = IsNumberIn-read (codes "workers") 1 64 all (λ r h e. h.0 e) end.sound end.workers;
      cut = IsNumberIn-read (codes "cut") 1 65536 all (λ r h e. h.1 e) end.sound end.cut;
      sound = end.sound;
    }

-- a level of the parse in which clap finds no fault ends with both numbers
pub HasNumbers-level : (s : Shape) (rest : List Rule) → s.rules ≡ numbers_and rest
    → s.args_override_self ≡ true → AllByRecursion Keeps rest → (words : List Text)
    → level_fault s [] nothing_held words false [] ≡ [] → HasNumbers (rows_after s.rules [] words)
HasNumbers-level s rest are again keep words none =
    let end = (walk s.rules [] nothing_held words).held in
    let keeps = subst (λ b. AllByRecursion (KeepsSound b) s.rules) (sym again)
    (subst (AllByRecursion (KeepsSound true)) (sym are) (numbers_and_keep rest keep)) in
    subst (λ rules. HasNumbers (fold with_default (settled s.rules end).rows rules)) (sym are)
    (numbers_have_rows rest keep (settled s.rules end).rows
    (AreKept-level IsSoundRow s keeps words none))

-- a row stays in later defaults
row_stays : (id : Text) (rest : List Rule) (rows : List Row) → has_row id rows ≡ true
    → has_row id (fold with_default rows rest) ≡ true
row_stays id [] rows has = has
row_stays id (a ∷ rest) rows has =
    row_stays id rest (with_default rows a) (has_row-kept id a rows has)

skew_has_row : (rows : List Row)
    → has_row (codes "skew") (fold with_default rows (numbers_and skew_to_first)) ≡ true
skew_has_row rows =
    let numbered = with_default (with_default rows workers_leaf) cut_leaf in
    let flagged = with_default
    (with_default (with_default numbered (flag_leaf (codes "explain"))) (flag_leaf (codes "quiet")))
    (flag_leaf (codes "exit-code")) in
    row_stays (codes "skew") to_first (with_default flagged skew_leaf)
    (has_row-default skew_leaf (codes "0") [] flagged refl refl)

-- where a level has the option of the skew, it ends with a skew if its rows are sound
pub IsNumberIn-skew : (s : Shape) → s.rules ≡ numbers_and skew_to_first → (words : List Text)
    → AreSound (rows_after s.rules [] words)
    → IsNumberIn 0 max_skew (one_of (codes "skew") (rows_after s.rules [] words))
IsNumberIn-skew s are words ok =
    let start = (settled s.rules (walk s.rules [] nothing_held words).held).rows in
    let has = subst (λ rules. has_row (codes "skew") (fold with_default start rules) ≡ true)
    (sym are) (skew_has_row start) in
    IsNumberIn-read (codes "skew") 0 max_skew (rows_after s.rules [] words) (λ r h e. h.3 e) ok has

required_given : (given : Bool) → cond (not given || false) (MissingRequiredArgument ∷ []) [] ≡ []
    → given ≡ true
required_given true none = refl
required_given false none = cc

-- no required argument is missing, where the first one alone is required
abbrev pub IsFirstThere : List Row → Type 0
IsFirstThere rows =
    cond (not (is_given (codes "first") rows) || false) (MissingRequiredArgument ∷ []) [] ≡ []

-- then the first argument has a row
pub first_in-required : (rows : List Row) → IsFirstThere rows → AreSound rows
    → IsSome (first_in rows)
first_in-required rows none ok =
    first_in-given rows ok (required_given (is_given (codes "first") rows) none)
