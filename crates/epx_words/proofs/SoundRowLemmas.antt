-- Sound rows: the numbers are in their ranges and the first argument has a value. Which steps keep
-- rows sound.
use Rattle.std.proofs.Common.{◌≡◌, ℕ, Bool, cond, true, false, ◌||◌, codes, List, [], ◌∷◌, ◌++◌}
use Rattle.std.proofs.Common.{Some, None, refl, sym, subst, true≢false, option_and_then, option_map}
use Rattle.std.proofs.Common.{slice_get}
use Rattle.epx_types.proofs.Common.{AllByRecursion, IsSome, option_map_or, ⊤, bytes_eq}
use Rattle.std.specs.List.{find}
use Rattle.clap.specs.Facts.{explicit_source}
use Rattle.clap.specs.Takes.{is_given}
use Rattle.clap.specs.Values.{IsUnsignedIn, read_as}
use Rattle.clap.specs.Walk.{Row, Rule, Text, at_row, default_rows, has_row, more_values}
use Rattle.clap.specs.Walk.{reading_by, row_text, one_of, with_default, with_values}
use Rattle.clap.specs.declared.builder.value_parser.Reading.{Reading}
use Rattle.clap.specs.declared.builder.value_parser.Reading.TheVariants.{AsWritten}
use Rattle.clap.specs.declared.parser.matches.ValueSource.{ValueSource}
use Rattle.clap.specs.declared.parser.matches.ValueSource.TheVariants.{DefaultValue}
use Rattle.epx_words.specs.SubcommandRows.{IsNumberIn, first_in, max_skew}
use Rattle.epx_words.proofs.KeptRowLemmas.{at_row-kept}

abbrev pub IsFirstNumber : ℕ → ℕ → List Text → Type 0
IsFirstNumber least most [] = ⊥
IsFirstNumber least most (v ∷ vs) = IsUnsignedIn least most v

-- the first value of the row is a number from `least` to `most`
abbrev pub IsNumberRow : ℕ → ℕ → Row → Type 0
IsNumberRow least most r = (r.reading ≡ AsWritten) × IsFirstNumber least most r.values

abbrev pub HasValue : List Text → Type 0
HasValue [] = ⊥
HasValue (v ∷ vs) = ⊤

abbrev pub IsSoundRow : Row → Type 0
IsSoundRow r =
    (bytes_eq r.id (codes "workers") ≡ true → IsNumberRow 1 64 r)
    × (bytes_eq r.id (codes "cut") ≡ true → IsNumberRow 1 65536 r)
    × (bytes_eq r.id (codes "first") ≡ true → HasValue r.values)
    × (bytes_eq r.id (codes "skew") ≡ true → IsNumberRow 0 max_skew r)

abbrev pub AreSound : List Row → Type 0
AreSound rows = AllByRecursion IsSoundRow rows

first_more : (least most : ℕ) (vs ws : List Text) → IsFirstNumber least most vs
    → IsFirstNumber least most (vs ++ ws)
first_more least most [] ws h = absurd h
first_more least most (v ∷ vs) ws h = h

value_more : (vs ws : List Text) → HasValue vs → HasValue (vs ++ ws)
value_more [] ws h = absurd h
value_more (v ∷ vs) ws h = h

more_sound : (s : ValueSource) (values : List Text) (r : Row) → IsSoundRow r
    → AreSound (more_values s values r)
more_sound s values r h = (
  (
    λ e. ((h.0 e).0, first_more 1 64 r.values values (h.0 e).1),
    λ e. ((h.1 e).0, first_more 1 65536 r.values values (h.1 e).1),
    λ e. value_more r.values values (h.2 e),
    λ e. ((h.3 e).0, first_more 0 max_skew r.values values (h.3 e).1),
  ),
  tt,
)

-- the row of the values, if there is none so far
abbrev pub new_row : Text → Reading → ValueSource → List Text → Row
new_row id how s values =
    record { id = id; values = values; count = None; source = Some s; reading = how }

pub AreSound-with_values : (id : Text) (how : Reading) (s : ValueSource) (values : List Text)
    (rows : List Row) → IsSoundRow (new_row id how s values) → AreSound rows
    → AreSound (with_values id how s values rows)
AreSound-with_values id how s values rows new h =
    at_row-kept IsSoundRow id (more_values s values) (new_row id how s values ∷ []) rows
    (more_sound s values) (new, tt) h

-- an argument whose default is in range keeps the rows sound, whether or not it was used
pub AreSound-with_default : (a : Rule) (v : Text) (vs : List Text) (rows : List Row)
    → a.defaults ≡ v ∷ vs
    → IsSoundRow (new_row a.id (reading_by a) DefaultValue (v ∷ vs)) → AreSound rows
    → AreSound (with_default rows a)
AreSound-with_default a v vs rows is new h = go (has_row a.id rows)
  where
    go : (b : Bool) → AreSound (cond b rows (default_rows a.id (reading_by a) a.defaults rows))
    go true = h
    go false = subst (λ ds. AreSound (default_rows a.id (reading_by a) ds rows)) (sym is)
        (AreSound-with_values a.id (reading_by a) DefaultValue (v ∷ vs) rows new h)

pub with_default-none : (a : Rule) (rows : List Row) → a.defaults ≡ [] → with_default rows a ≡ rows
with_default-none a rows is = go (has_row a.id rows)
  where
    go : (b : Bool) → cond b rows (default_rows a.id (reading_by a) a.defaults rows) ≡ rows
    go true = refl
    go false = rw is refl

-- ---- rows that exist

or_right : (a b : Bool) → b ≡ true → (a || b) ≡ true
or_right true b e = refl
or_right false b e = e

keeps_row : (id other : Text) (s : ValueSource) (values : List Text) (missing rows : List Row)
    → has_row id rows ≡ true → has_row id (at_row other (more_values s values) missing rows) ≡ true
keeps_row id other s values missing [] e = cc
keeps_row id other s values missing (r ∷ rs) e =
    go (bytes_eq r.id other) (keeps_row id other s values missing rs)
  where
    there : (b : Bool)
        → (has_row id rs ≡ true → has_row id (at_row other (more_values s values) missing rs)
        ≡ true) → (b || has_row id rs) ≡ true
        → (b || has_row id (at_row other (more_values s values) missing rs)) ≡ true
    there true rest e = refl
    there false rest e = rest e

    go : (b : Bool)
        → (has_row id rs ≡ true → has_row id (at_row other (more_values s values) missing rs)
        ≡ true)
        → has_row id (cond b (more_values s values r ++ rs)
        (r ∷ at_row other (more_values s values) missing rs)) ≡ true
    go true rest = e
    go false rest = there (bytes_eq r.id id) rest e

makes_row : (id : Text) (s : ValueSource) (values : List Text) (row : Row) (rows : List Row)
    → bytes_eq row.id id ≡ true → has_row id (at_row id (more_values s values) (row ∷ []) rows)
    ≡ true
makes_row id s values row [] e = rw e refl
makes_row id s values row (r ∷ rs) e = go (bytes_eq r.id id) refl (makes_row id s values row rs e)
  where
    go : (b : Bool) → bytes_eq r.id id ≡ b
        → has_row id (at_row id (more_values s values) (row ∷ []) rs) ≡ true
        → has_row id (cond b (more_values s values r ++ rs)
        (r ∷ at_row id (more_values s values) (row ∷ []) rs)) ≡ true
    go true t rest = rw t refl
    go false t rest = or_right (bytes_eq r.id id) _ rest

-- an argument with a default has a row
pub has_row-default : (a : Rule) (v : Text) (vs : List Text) (rows : List Row)
    → a.defaults ≡ v ∷ vs → bytes_eq a.id a.id ≡ true → has_row a.id (with_default rows a) ≡ true
has_row-default a v vs rows is same = go (has_row a.id rows) refl
  where
    go : (b : Bool) → has_row a.id rows ≡ b
        → has_row a.id (cond b rows (default_rows a.id (reading_by a) a.defaults rows)) ≡ true
    go true t = t
    go false t = subst (λ ds. has_row a.id (default_rows a.id (reading_by a) ds rows) ≡ true)
        (sym is)
        (makes_row a.id DefaultValue (v ∷ vs) (new_row a.id (reading_by a) DefaultValue (v ∷ vs))
        rows same)

-- and no other default removes it
pub has_row-kept : (id : Text) (a : Rule) (rows : List Row) → has_row id rows ≡ true
    → has_row id (with_default rows a) ≡ true
has_row-kept id a rows has = go (has_row a.id rows)
  where
    given : (ds : List Text) → has_row id (default_rows a.id (reading_by a) ds rows) ≡ true
    given [] = has
    given (v ∷ vs) = keeps_row id a.id DefaultValue (v ∷ vs)
        (new_row a.id (reading_by a) DefaultValue (v ∷ vs) ∷ []) rows has

    go : (b : Bool) → has_row id (cond b rows (default_rows a.id (reading_by a) a.defaults rows))
        ≡ true
    go true = has
    go false = given a.defaults

-- ---- values read from rows

row_number : (least most : ℕ) (how : Reading) (values : List Text) → how ≡ AsWritten
    → IsFirstNumber least most values
    → IsNumberIn least most (option_map (read_as how) (slice_get values 0))
row_number least most how [] is h = absurd h
row_number least most how (v ∷ vs) is h =
    subst (λ (x : Reading). IsUnsignedIn least most (read_as x v)) (sym is) h

pub IsNumberIn-read : (id : Text) (least most : ℕ) (rows : List Row)
    → ((r : Row) → IsSoundRow r → bytes_eq r.id id ≡ true → IsNumberRow least most r)
    → AreSound rows → has_row id rows ≡ true → IsNumberIn least most (one_of id rows)
IsNumberIn-read id least most [] f h has = absurd (true≢false (sym has))
IsNumberIn-read id least most (r ∷ rs) f h has =
    go (bytes_eq r.id id) refl (λ e. IsNumberIn-read id least most rs f h.1 e) has
  where
    go : (b : Bool) → bytes_eq r.id id ≡ b
        → (has_row id rs ≡ true → IsNumberIn least most (one_of id rs))
        → (b || has_row id rs) ≡ true
        → IsNumberIn least most
        (option_and_then row_text (cond b (Some r) (find (λ x. bytes_eq x.id id) rs)))
    go true t rest e = row_number least most r.reading r.values (f r h.0 t).0 (f r h.0 t).1
    go false t rest e = rest e

value_there : (values : List Text) → HasValue values → IsSome (slice_get values 0)
value_there [] h = absurd h
value_there (v ∷ vs) h = refl

-- a first argument that is present has a value
pub first_in-given : (rows : List Row) → AreSound rows → is_given (codes "first") rows ≡ true
    → IsSome (first_in rows)
first_in-given [] ok given = absurd (true≢false (sym given))
first_in-given (r ∷ rs) ok given =
    go (bytes_eq r.id (codes "first")) refl (λ e. first_in-given rs ok.1 e)
    given
  where
    go : (b : Bool) → bytes_eq r.id (codes "first") ≡ b
        → (is_given (codes "first") rs ≡ true → IsSome (first_in rs))
        → option_map_or (λ x. explicit_source x.source)
        (cond b (Some r) (find (λ x. bytes_eq x.id (codes "first")) rs)) false ≡ true
        → IsSome (option_and_then (λ x. slice_get x.values 0)
        (cond b (Some r) (find (λ x. bytes_eq x.id (codes "first")) rs)))
    go true t rest e = value_there r.values (ok.0.2 t)
    go false t rest e = rest e
