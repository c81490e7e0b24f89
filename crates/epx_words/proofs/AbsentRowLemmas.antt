-- An argument that a subcommand does not have has no row.
use Rattle.std.proofs.Common.{◌≡◌, ◌+◌, Bool, cond, true, false, List, [], ◌∷◌, None, Some, min}
use Rattle.std.proofs.Common.{refl}
use Rattle.epx_types.proofs.Common.{AllByRecursion, fold, bytes_eq}
use Rattle.clap.specs.Faults.{level_fault}
use Rattle.clap.specs.Matches.{count_text}
use Rattle.clap.specs.Simple.{Shape}
use Rattle.clap.specs.Walk.{Row, Rule, Text, action_of, count_of, counted, default_rows, first_of}
use Rattle.clap.specs.Walk.{has_row, more_values, new_count, nothing_held, reading_by, rows_after}
use Rattle.clap.specs.Walk.{settled, used_as, values_or_missing, walk, with_default, with_values}
use Rattle.clap.specs.Walk.{without}
use Rattle.clap.specs.declared.builder.action.ArgAction.{ArgAction}
use Rattle.clap.specs.declared.builder.action.ArgAction.TheVariants.{Append, Count, Set, SetFalse}
use Rattle.clap.specs.declared.builder.action.ArgAction.TheVariants.{SetTrue}
use Rattle.clap.specs.declared.builder.value_parser.Reading.{Reading}
use Rattle.clap.specs.declared.parser.matches.ValueSource.{ValueSource}
use Rattle.clap.specs.declared.parser.matches.ValueSource.TheVariants.{CommandLine, DefaultValue}
use Rattle.epx_words.specs.SubcommandRows.{HasFlag}
use Rattle.epx_words.proofs.KeptRowLemmas.{KeepsRows, at_row-kept, AreKept-level, without-kept}
use Rattle.epx_words.proofs.SoundRowLemmas.{new_row}

module _ (id : Text) where
  -- the row, or the argument, is another one
  abbrev IsOther : Row → Type 0
  IsOther r = bytes_eq r.id id ≡ false

  abbrev pub IsOtherRule : Rule → Type 0
  IsOtherRule a = bytes_eq a.id id ≡ false

  abbrev AreOthers : List Row → Type 0
  AreOthers = AllByRecursion IsOther

  values_other : (name : Text) (how : Reading) (s : ValueSource) (values : List Text)
      (rows : List Row) → bytes_eq name id ≡ false → AreOthers rows
      → AreOthers (with_values name how s values rows)
  values_other name how s values rows other h =
      at_row-kept IsOther name (more_values s values) (new_row name how s values ∷ []) rows
      (λ r is. (is, tt)) (other, tt) h

  set_other : (name : Text) (how : Reading) (values : List Text) (rows : List Row)
      → bytes_eq name id ≡ false → AreOthers rows
      → AreOthers (with_values name how CommandLine values (without name rows))
  set_other name how values rows other h =
      values_other name how CommandLine values (without name rows) other
      (without-kept IsOther name rows h)

  counted_other : (name : Text) (how : Reading) (values : List Text) (rows : List Row)
      → bytes_eq name id ≡ false → AreOthers rows → AreOthers (counted name how values rows)
  counted_other name how [] rows other h =
      let n = min (count_of name rows + 1) 255 in
      let row = record (new_row name how CommandLine (count_text n ∷ [])) { count = Some n } in
      at_row-kept IsOther name (new_count CommandLine n) (row ∷ []) (without name rows)
      (λ r is. (is, tt)) (other, tt) (without-kept IsOther name rows h)
  counted_other name how (v ∷ vs) rows other h = set_other name how (v ∷ vs) rows other h

  used_other : (action : ArgAction) (name : Text) (how : Reading) (values : List Text)
      (rows : List Row) → bytes_eq name id ≡ false → AreOthers rows
      → AreOthers (used_as action name how values rows)
  used_other Set name how values rows other h = set_other name how values rows other h
  used_other SetTrue name how values rows other h = set_other name how values rows other h
  used_other SetFalse name how values rows other h = set_other name how values rows other h
  used_other Append name how values rows other h =
      values_other name how CommandLine values rows other h
  used_other Count name how values rows other h = counted_other name how values rows other h
  used_other _ name how values rows other h = h

  uses_keep : (again : Bool) (rules : List Rule) → AllByRecursion IsOtherRule rules
      → AllByRecursion (KeepsRows IsOther again) rules
  uses_keep again [] others = tt
  uses_keep again (a ∷ rest) others = (
    λ values rows none h. used_other (action_of a) a.id (reading_by a) (values_or_missing a values)
        rows others.0 h,
    uses_keep again rest others.1,
  )

  default_other : (a : Rule) (rows : List Row) → IsOtherRule a → AreOthers rows
      → AreOthers (with_default rows a)
  default_other a rows other h = go (has_row a.id rows)
    where
      given : (ds : List Text) → AreOthers (default_rows a.id (reading_by a) ds rows)
      given [] = h
      given (v ∷ vs) = values_other a.id (reading_by a) DefaultValue (v ∷ vs) rows other h

      go : (b : Bool) → AreOthers (cond b rows (default_rows a.id (reading_by a) a.defaults rows))
      go true = h
      go false = given a.defaults

  defaults_other : (rules : List Rule) (rows : List Row) → AllByRecursion IsOtherRule rules
      → AreOthers rows → AreOthers (fold with_default rows rules)
  defaults_other [] rows others h = h
  defaults_other (a ∷ rest) rows others h =
      defaults_other rest (with_default rows a) others.1 (default_other a rows others.0 h)

  no_value : (rows : List Row) → AreOthers rows → first_of id rows ≡ None
  no_value [] h = refl
  no_value (r ∷ rs) h = rw h.0 (no_value rs h.1)

  -- a level in which clap finds no fault ends without the flag
  pub HasFlag-absent : (s : Shape) → AllByRecursion IsOtherRule s.rules → (words : List Text)
      → level_fault s [] nothing_held words false [] ≡ []
      → ¬ HasFlag id (rows_after s.rules [] words)
  HasFlag-absent s others words none has =
      let end = (walk s.rules [] nothing_held words).held in
      let keeps = uses_keep s.args_override_self s.rules others in
      let all = defaults_other s.rules (settled s.rules end).rows others
      (AreKept-level IsOther s keeps words none) in
      cc (has, no_value (rows_after s.rules [] words) all)
