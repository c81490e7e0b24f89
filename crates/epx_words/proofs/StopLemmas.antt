-- A walk in which clap finds no fault stops only at a subcommand that asks for work, and not at
-- `help`.
use Rattle.std.proofs.Common.{◌≡◌, ◌⊎◌, ℕ, Bool, cond, true, false, codes, List, [], ◌∷◌, Option}
use Rattle.std.proofs.Common.{Some, None, is_some, inl, inr}
use Rattle.epx_types.proofs.Common.{AllByRecursion, fold, bytes_eq}
use Rattle.std.specs.List.{find}
use Rattle.std.specs.Option.{IfSome, option_map}
use Rattle.clap.specs.Lexer.{long_of, short_of}
use Rattle.clap.specs.Kinds.{or_else}
use Rattle.clap.specs.Faults.{other_fault, step_fault, turn_fault, walk_fault, word_fault}
use Rattle.clap.specs.Simple.{Shape}
use Rattle.clap.specs.Walk.{Held, Names, Outcome, Rule, Step, Text, Waiting, Walk, after_flag}
use Rattle.clap.specs.Walk.{after_step, answers_to, arg_by_index, arg_by_long, bundle, done, idle}
use Rattle.clap.specs.Walk.{long_met, long_or_other, next, option, plain, plain_word, positional}
use Rattle.clap.specs.Walk.{refused, short_or_plain, subcommand, subcommand_met}
use Rattle.clap.specs.Walk.{subcommand_or_other, to_positional, trailing, value, waits, walked}
use Rattle.clap.specs.Walk.{walked_from, word_met}
use Rattle.clap.specs.declared.error.kind.ErrorKind.TheVariants.{DisplayHelp, InvalidSubcommand}
use Rattle.epx_words.specs.SubcommandRows.{IsWorkName}
use Rattle.epx_words.proofs.KindLemmas.{or_else-nil_second, or_else-nil_first}

abbrev pub StopsAtWork : Option (Text × List Text) → Type 0
StopsAtWork stop = IfSome stop (λ p. IsWorkName p.0)

-- a subcommand of the program: one that asks for work, or `help`, which clap adds
abbrev pub IsKnownName : Text → Type 0
IsKnownName name = IsWorkName name ⊎ (name ≡ codes "help")

abbrev IsWorkStep : Step → Type 0
IsWorkStep (subcommand name) = IsWorkName name
IsWorkStep (next waiting) = Unit {0}
IsWorkStep (trailing position) = Unit {0}
IsWorkStep value = Unit {0}

module _ (s : Shape) (names : Names) (helps : s.disable_help_subcommand ≡ false)
    (known : AllByRecursion (λ l. IsKnownName l.0) names) where
  abbrev c : List Rule
  c = s.rules

  found_known : (p : Text × List Text → Bool) (ns : Names)
      → AllByRecursion (λ l. IsKnownName l.0) ns
      → IfSome (option_map (λ l. l.0) (find p ns)) IsKnownName
  found_known p [] all = tt
  found_known p (n ∷ ns) all = go (p n) (found_known p ns all.1)
    where
      go : (b : Bool) → IfSome (option_map (λ l. l.0) (find p ns)) IsKnownName
          → IfSome (option_map (λ l. l.0) (cond b (Some n) (find p ns))) IsKnownName
      go true later = all.0
      go false later = later

  met_known : (waiting : Waiting) (word : Text)
      → IfSome (subcommand_met names waiting word) IsKnownName
  met_known idle word = found_known (answers_to word) names known
  met_known (option id) word = tt
  met_known positional word = tt

  named_work : (name word : Text) (h : Held) → IsKnownName name
      → other_fault s (Some name) word h ≡ [] → IsWorkName name
  named_work name word h (inl work) none = work
  named_work name word h (inr help) none =
      let asked : DisplayHelp ∷ InvalidSubcommand ∷ [] ≡ [] = rw (help, helps) at none in
      cc

  plain_work : (waiting : Waiting) (word : Text) (h : Held)
      → IsWorkStep (plain_word c waiting word h).1
  plain_work (option id) word h = tt
  plain_work idle word h = tt
  plain_work positional word h = tt

  after_work : (waiting : Waiting) (word : Text) (h : Held) (outcome : Outcome)
      → IsWorkStep (after_flag c waiting word h outcome).1
  after_work waiting word h done = tt
  after_work waiting word h (waits id) = tt
  after_work waiting word h plain = plain_work waiting word h
  after_work waiting word h refused = plain_work waiting word h

  short_work : (waiting : Waiting) (word : Text) (flags : Option Text) (h : Held)
      → IsWorkStep (short_or_plain c waiting word flags h).1
  short_work waiting word None h = plain_work waiting word h
  short_work waiting word (Some flags) h =
      after_work waiting word (bundle c flags h).0 (bundle c flags h).1

  flags_work : (waiting : Waiting) (word : Text) (name : Option (Text × Option Text)) (h : Held)
      → IsWorkStep (long_or_other c waiting word name h).1
  flags_work waiting word (Some p) h = let met = long_met c (arg_by_long c p.0) p.1 h in
      after_work waiting word met.0 met.1
  flags_work waiting word None h = short_work waiting word (short_of word) h

  other_work : (name : Option Text) (waiting : Waiting) (position : ℕ) (word : Text) (h : Held)
      → IfSome name IsKnownName → other_fault s name word h ≡ []
      → IsWorkStep (subcommand_or_other c name waiting position word h).1
  other_work (Some name) waiting position word h is none = named_work name word h is none
  other_work None waiting position word h is none = go (bytes_eq word (45 ∷ 45 ∷ []))
    where
      go : (b : Bool)
          → IsWorkStep (cond b (h, trailing position)
          (long_or_other c waiting word (long_of word) h)).1
      go true = tt
      go false = flags_work waiting word (long_of word) h

  word_work : (is_trailing : Bool) (waiting : Waiting) (position : ℕ) (word : Text) (h : Held)
      → word_fault s names is_trailing waiting word h ≡ []
      → IsWorkStep (word_met c names is_trailing waiting position word h).1
  word_work true waiting position word h none = tt
  word_work false waiting position word h none =
      other_work (subcommand_met names waiting word) waiting position word h
      (met_known waiting word) none

  to_positional_work : (found : Option Rule) (word : Text) (w : Walk) (h : Held)
      → StopsAtWork w.stopped → StopsAtWork (to_positional c found word w h).stopped
  to_positional_work None word w h ok = ok
  to_positional_work (Some a) word w h ok = tt

  step_work : (w : Walk) (word : Text) (h : Held) (step : Step) → IsWorkStep step
      → StopsAtWork w.stopped → StopsAtWork (after_step c word w h step).stopped
  step_work w word h (next waiting) is ok = ok
  step_work w word h (trailing position) is ok = ok
  step_work w word h (subcommand name) is ok = is
  step_work w word h value is ok = to_positional_work (arg_by_index c w.position) word w h ok

  turn_work : (w : Walk) (word : Text) → turn_fault s names w word ≡ [] → StopsAtWork w.stopped
      → StopsAtWork (walked c names w word).stopped
  unfolding walked
  turn_work w word none ok = go w.stopped none ok
    where
      met : Held × Step
      met = word_met c names w.is_trailing w.waiting w.position word w.held

      go : (stopped : Option (Text × List Text))
          → cond (is_some stopped) []
          (or_else (word_fault s names w.is_trailing w.waiting word w.held)
          (step_fault s w.position met.0 met.1)) ≡ [] → StopsAtWork stopped
          → StopsAtWork (walked_from c names stopped w word).stopped
      go (Some p) e work = work
      go None e work =
          step_work w word met.0 met.1
          (word_work w.is_trailing w.waiting w.position word w.held
          (or_else-nil_first (word_fault s names w.is_trailing w.waiting word w.held) _ e)) ok

  pub StopsAtWork-walk : (w : Walk) (words : List Text) → walk_fault s names w words ≡ []
      → StopsAtWork w.stopped → StopsAtWork (fold (walked c names) w words).stopped
  unfolding walk_fault
  StopsAtWork-walk w [] none ok = ok
  StopsAtWork-walk w (word ∷ words) none ok =
      StopsAtWork-walk (walked c names w word) words
      (or_else-nil_second (turn_fault s names w word) _ none)
      (turn_work w word (or_else-nil_first (turn_fault s names w word) _ none) ok)
