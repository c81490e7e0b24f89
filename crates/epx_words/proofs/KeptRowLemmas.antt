-- What holds of each row stays true in a walk in which clap finds no fault, if each use of an
-- argument keeps it.
use Rattle.std.proofs.Common.{◌≡◌, ◌&&◌, ◌++◌, ℕ, Bool, zero, suc, cond, true, false, List, []}
use Rattle.std.proofs.Common.{◌∷◌, length, drop, Option, Some, None, is_some, encode_utf8}
use Rattle.std.proofs.Common.{slice_get}
use Rattle.epx_types.proofs.Common.{AllByRecursion, fold, option_map_or, bytes_eq}
use Rattle.std.specs.List.{find}
use Rattle.std.specs.Option.{IfSome}
use Rattle.std.specs.Str.{chars}
use Rattle.clap.specs.Lexer.{long_of, short_of}
use Rattle.clap.specs.Kinds.{Kinds, or_else}
use Rattle.clap.specs.Faults.{bundle_step_fault, flag_word_fault, flags_fault, level_fault}
use Rattle.clap.specs.Faults.{long_fault, option_fault, other_fault, positional_fault, react_fault}
use Rattle.clap.specs.Faults.{settle_fault, short_fault, step_fault, stray_fault, turn_fault}
use Rattle.clap.specs.Faults.{use_fault, walk_fault, word_fault}
use Rattle.clap.specs.Simple.{Shape}
use Rattle.clap.specs.Walk.{Held, Names, Outcome, Row, Rule, Step, Text, Waiting, Walk, after_flag}
use Rattle.clap.specs.Walk.{after_step, arg_by_id, arg_by_index, arg_by_long, arg_by_short, at_row}
use Rattle.clap.specs.Walk.{attached_value, bundle, bundle_met, bundle_step, done, flag_met, idle}
use Rattle.clap.specs.Walk.{is_pending, long_met, long_or_other, next, nothing_held, option}
use Rattle.clap.specs.Walk.{option_met}
use Rattle.clap.specs.Walk.{option_word, plain, plain_word, positional, pushed, reacted, refused}
use Rattle.clap.specs.Walk.{settled, settled_rows, short_met, short_or_plain, subcommand}
use Rattle.clap.specs.Walk.{subcommand_met, subcommand_or_other, takes_several, takes_values}
use Rattle.clap.specs.Walk.{to_positional, trailing, used, used_by_id, value, waits, walked}
use Rattle.clap.specs.Walk.{walk, walk_from, walked_from, without, word_met}
use Rattle.clap.specs.declared.error.kind.ErrorKind.TheVariants.{TooManyValues}
use Rattle.epx_words.proofs.KindLemmas.{or_else-nil_second, or_else-nil_first}

module _ (P : Row → Type 0) where
  append_kept : (xs ys : List Row) → AllByRecursion P xs → AllByRecursion P ys
      → AllByRecursion P (xs ++ ys)
  append_kept [] ys a b = b
  append_kept (x ∷ xs) ys a b = (a.0, append_kept xs ys a.1 b)

  pub at_row-kept : (id : Text) (change : Row → List Row) (missing rows : List Row)
      → ((r : Row) → P r → AllByRecursion P (change r)) → AllByRecursion P missing
      → AllByRecursion P rows → AllByRecursion P (at_row id change missing rows)
  at_row-kept id change missing [] f m h = m
  at_row-kept id change missing (r ∷ rs) f m h =
      go (bytes_eq r.id id) (at_row-kept id change missing rs f m h.1)
    where
      go : (b : Bool) → AllByRecursion P (at_row id change missing rs)
          → AllByRecursion P (cond b (change r ++ rs) (r ∷ at_row id change missing rs))
      go true rest = append_kept (change r) rs (f r h.0) h.1
      go false rest = (h.0, rest)

  pub without-kept : (id : Text) (rows : List Row) → AllByRecursion P rows
      → AllByRecursion P (without id rows)
  without-kept id rows h = at_row-kept id (λ _. []) [] rows (λ r s. tt) tt h

-- a use of the argument without a fault keeps what holds of each row
abbrev pub KeepsRows : (Row → Type 0) → Bool → Rule → Type 0
KeepsRows P again a = (values : List Text) (rows : List Row) → use_fault again a values rows ≡ []
    → AllByRecursion P rows → AllByRecursion P (used a values rows)

pub IfSome-find : (P : Rule → Type 0) (p : Rule → Bool) (c : List Rule) → AllByRecursion P c
    → IfSome (find p c) P
IfSome-find P p [] all = tt
IfSome-find P p (a ∷ rest) all = go (p a) (IfSome-find P p rest all.1)
  where
    go : (b : Bool) → IfSome (find p rest) P → IfSome (cond b (Some a) (find p rest)) P
    go true later = all.0
    go false later = later

module _ (P : Row → Type 0) (s : Shape)
    (keeps : AllByRecursion (KeepsRows P s.args_override_self) s.rules) where
  abbrev AreKept : List Row → Type 0
  AreKept = AllByRecursion P

  abbrev c : List Rule
  c = s.rules

  abbrev again : Bool
  again = s.args_override_self

  abbrev FoundKeeps : Option Rule → Type 0
  FoundKeeps found = IfSome found (KeepsRows P again)

  by_id_kept : (found : Option Rule) (values : List Text) (rows : List Row) → FoundKeeps found
      → option_map_or (λ a. use_fault again a values rows) found [] ≡ [] → AreKept rows
      → AreKept (used_by_id found values rows)
  by_id_kept None values rows k none h = h
  by_id_kept (Some a) values rows k none h = k values rows none h

  rows_kept : (pending : Option (Text × List Text)) (rows : List Row)
      → option_map_or (λ p. option_map_or (λ a. use_fault again a p.1 rows) (arg_by_id c p.0) [])
      pending [] ≡ [] → AreKept rows
      → AreKept (settled_rows c pending rows)
  rows_kept None rows none h = h
  rows_kept (Some p) rows none h =
      by_id_kept (arg_by_id c p.0) p.1 rows (IfSome-find (KeepsRows P again) _ c keeps) none h

  settled_kept : (h : Held) → settle_fault c again h ≡ [] → AreKept h.rows
      → AreKept (settled c h).rows
  settled_kept h none ok = rows_kept h.pending h.rows none ok

  reacted_kept : (a : Rule) (values : List Text) (h : Held) → KeepsRows P again a
      → react_fault c again a values h ≡ [] → AreKept h.rows
      → AreKept (reacted c a values h).rows
  reacted_kept a values h k none ok =
      k values (settled c h).rows (or_else-nil_second (settle_fault c again h) _ none)
      (settled_kept h (or_else-nil_first (settle_fault c again h) _ none) ok)

  option_kept : (a : Rule) (v : Option Text) (h : Held) → KeepsRows P again a
      → option_fault c again a v h ≡ [] → AreKept h.rows → AreKept (option_met c a v h).0.rows
  option_kept a (Some v) h k none ok = reacted_kept a (v ∷ []) h k none ok
  option_kept a None h k none ok = settled_kept h none ok

  flag_kept : (a : Rule) (v : Option Text) (h : Held) → KeepsRows P again a
      → cond (is_some v) (TooManyValues ∷ []) (react_fault c again a [] h) ≡ [] → AreKept h.rows
      → AreKept (flag_met c a v h).0.rows
  flag_kept a (Some v) h k none ok = ok
  flag_kept a None h k none ok = reacted_kept a [] h k none ok

  long_kept : (found : Option Rule) (v : Option Text) (h : Held) → FoundKeeps found
      → long_fault c again found v h ≡ [] → AreKept h.rows
      → AreKept (long_met c found v h).0.rows
  long_kept None v h k none ok = ok
  long_kept (Some a) v h k none ok = go (takes_values a) none
    where
      go : (b : Bool) → cond b (option_fault c again a v h)
          (cond (is_some v) (TooManyValues ∷ []) (react_fault c again a [] h)) ≡ []
          → AreKept (cond b (option_met c a v h) (flag_met c a v h)).0.rows
      go true e = option_kept a v h k e ok
      go false e = flag_kept a v h k e ok

  short_kept : (found : Option Rule) (rest : Text) (h : Held) (met : Held → Held × Outcome)
      (fault : Held → Kinds) → FoundKeeps found
      → ((g : Held) → fault g ≡ [] → AreKept g.rows → AreKept (met g).0.rows)
      → short_fault c again found rest h fault ≡ [] → AreKept h.rows
      → AreKept (short_met c found rest h met).0.rows
  short_kept None rest h met fault k later none ok = ok
  short_kept (Some a) rest h met fault k later none ok = go (takes_values a) none
    where
      go : (b : Bool) → cond b (option_fault c again a (attached_value rest) h)
          (or_else (react_fault c again a [] h) (fault (reacted c a [] h))) ≡ []
          → AreKept (cond b (option_met c a (attached_value rest) h)
          (met (reacted c a [] h))).0.rows
      go true e = option_kept a (attached_value rest) h k e ok
      go false e = later (reacted c a [] h) (or_else-nil_second (react_fault c again a [] h) _ e)
          (reacted_kept a [] h k (or_else-nil_first (react_fault c again a [] h) _ e) ok)

  pub AreKept-bundle : (k : ℕ) (flags : Text) (skip : ℕ) (so_far : Outcome) (h : Held)
      → flags_fault c again k flags skip h ≡ [] → AreKept h.rows
      → AreKept (bundle_met c k flags skip so_far h).0.rows
  unfolding bundle_met flags_fault
  AreKept-bundle zero flags skip so_far h none ok = ok
  AreKept-bundle (suc k) flags skip so_far h none ok =
      go (slice_get (chars flags) 0) skip (AreKept-bundle k) none
    where
      go : (first : Option ℕ) (skip : ℕ)
          → ((rest : Text) (skip : ℕ) (so_far : Outcome) (g : Held)
          → flags_fault c again k rest skip g ≡ [] → AreKept g.rows
          → AreKept (bundle_met c k rest skip so_far g).0.rows)
          → bundle_step_fault c again first flags skip h (flags_fault c again k) ≡ []
          → AreKept (bundle_step c first flags skip so_far h (bundle_met c k)).0.rows
      go None skip later e = ok
      go (Some x) zero later e =
          let rest = drop (length (encode_utf8 x)) flags in
          short_kept (arg_by_short c x) rest h (bundle_met c k rest 0 done)
          (flags_fault c again k rest 0) (IfSome-find (KeepsRows P again) _ c keeps)
          (λ g. later rest 0 done g) e ok
      go (Some x) (suc skip) later e =
          later (drop (length (encode_utf8 x)) flags) skip so_far h e ok

  option_word_kept : (found : Option Rule) (id word : Text) (h : Held) → AreKept h.rows
      → AreKept (option_word found id word h).0.rows
  option_word_kept None id word h ok = ok
  option_word_kept (Some a) id word h ok = ok

  plain_kept : (waiting : Waiting) (word : Text) (h : Held) → AreKept h.rows
      → AreKept (plain_word c waiting word h).0.rows
  plain_kept (option id) word h ok = option_word_kept (arg_by_id c id) id word h ok
  plain_kept idle word h ok = ok
  plain_kept positional word h ok = ok

  after_kept : (waiting : Waiting) (word : Text) (h : Held) (outcome : Outcome) → AreKept h.rows
      → AreKept (after_flag c waiting word h outcome).0.rows
  after_kept waiting word h done ok = ok
  after_kept waiting word h (waits id) ok = ok
  after_kept waiting word h plain ok = plain_kept waiting word h ok
  after_kept waiting word h refused ok = plain_kept waiting word h ok

  shorts_kept : (waiting : Waiting) (word : Text) (flags : Option Text) (h : Held)
      → option_map_or (λ f. flags_fault c again (length f) f h.skip (record h { skip = 0 })) flags
      [] ≡ [] → AreKept h.rows
      → AreKept (short_or_plain c waiting word flags h).0.rows
  shorts_kept waiting word None h none ok = plain_kept waiting word h ok
  shorts_kept waiting word (Some flags) h none ok =
      after_kept waiting word (bundle c flags h).0 (bundle c flags h).1
      (AreKept-bundle (length flags) flags h.skip plain (record h { skip = 0 }) none ok)

  flags_kept : (waiting : Waiting) (word : Text) (name : Option (Text × Option Text)) (h : Held)
      → flag_word_fault c again name word h ≡ [] → AreKept h.rows
      → AreKept (long_or_other c waiting word name h).0.rows
  flags_kept waiting word (Some p) h none ok =
      let met = long_met c (arg_by_long c p.0) p.1 h in
      after_kept waiting word met.0 met.1
      (long_kept (arg_by_long c p.0) p.1 h (IfSome-find (KeepsRows P again) _ c keeps) none ok)
  flags_kept waiting word None h none ok = shorts_kept waiting word (short_of word) h none ok

  other_kept : (name : Option Text) (waiting : Waiting) (position : ℕ) (word : Text) (h : Held)
      → other_fault s name word h ≡ [] → AreKept h.rows
      → AreKept (subcommand_or_other c name waiting position word h).0.rows
  other_kept (Some name) waiting position word h none ok = ok
  other_kept None waiting position word h none ok = go (bytes_eq word (45 ∷ 45 ∷ [])) none
    where
      go : (b : Bool) → cond b [] (flag_word_fault c again (long_of word) word h) ≡ []
          → AreKept (cond b (h, trailing position)
          (long_or_other c waiting word (long_of word) h)).0.rows
      go true e = ok
      go false e = flags_kept waiting word (long_of word) h e ok

  word_kept : (names : Names) (is_trailing : Bool) (waiting : Waiting) (position : ℕ)
      (word : Text) (h : Held) → word_fault s names is_trailing waiting word h ≡ []
      → AreKept h.rows
      → AreKept (word_met c names is_trailing waiting position word h).0.rows
  word_kept names true waiting position word h none ok = ok
  word_kept names false waiting position word h none ok =
      other_kept (subcommand_met names waiting word) waiting position word h none ok

  to_kept : (found : Option Rule) (word : Text) (w : Walk) (h : Held)
      → option_map_or (λ a. positional_fault c again a h) found (stray_fault s) ≡ []
      → AreKept h.rows
      → AreKept (to_positional c found word w h).held.rows
  to_kept None word w h none ok = ok
  to_kept (Some a) word w h none ok = go (is_pending a h.pending && takes_several a) none
    where
      go : (b : Bool) → cond b [] (settle_fault c again h) ≡ []
          → AreKept (pushed a.id word (cond b h (settled c h))).rows
      go true e = ok
      go false e = settled_kept h e ok

  step_kept : (w : Walk) (word : Text) (h : Held) (step : Step)
      → step_fault s w.position h step ≡ [] → AreKept h.rows
      → AreKept (after_step c word w h step).held.rows
  step_kept w word h (next waiting) none ok = ok
  step_kept w word h (trailing position) none ok = ok
  step_kept w word h (subcommand name) none ok = ok
  step_kept w word h value none ok = to_kept (arg_by_index c w.position) word w h none ok

  turn_kept : (names : Names) (w : Walk) (word : Text) → turn_fault s names w word ≡ []
      → AreKept w.held.rows → AreKept (walked c names w word).held.rows
  unfolding walked
  turn_kept names w word none ok = go w.stopped none
    where
      met : Held × Step
      met = word_met c names w.is_trailing w.waiting w.position word w.held

      go : (stopped : Option (Text × List Text))
          → cond (is_some stopped) []
          (or_else (word_fault s names w.is_trailing w.waiting word w.held)
          (step_fault s w.position met.0 met.1)) ≡ []
          → AreKept (walked_from c names stopped w word).held.rows
      go (Some p) e = ok
      go None e =
          step_kept w word met.0 met.1
          (or_else-nil_second (word_fault s names w.is_trailing w.waiting word w.held) _ e)
          (word_kept names w.is_trailing w.waiting w.position word w.held
          (or_else-nil_first (word_fault s names w.is_trailing w.waiting word w.held) _ e) ok)

  walk_kept : (names : Names) (w : Walk) (words : List Text) → walk_fault s names w words ≡ []
      → AreKept w.held.rows → AreKept (fold (walked c names) w words).held.rows
  unfolding walk_fault
  walk_kept names w [] none ok = ok
  walk_kept names w (word ∷ words) none ok =
      walk_kept names (walked c names w word) words
      (or_else-nil_second (turn_fault s names w word) _ none)
      (turn_kept names w word (or_else-nil_first (turn_fault s names w word) _ none) ok)

  -- and so does a level in which clap finds no fault, up to its defaults
  pub AreKept-level : (words : List Text) → level_fault s [] nothing_held words false [] ≡ []
      → AreKept (settled c (walk c [] nothing_held words).held).rows
  AreKept-level words none =
      let end = (walk c [] nothing_held words).held in
      let walked = walk_fault s [] (walk_from nothing_held) words in
      settled_kept end
      (or_else-nil_first (settle_fault c again end) _ (or_else-nil_second walked _ none))
      (walk_kept [] (walk_from nothing_held) words (or_else-nil_first walked _ none) tt)
