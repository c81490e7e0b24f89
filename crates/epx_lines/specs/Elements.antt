-- Numbers and lists in a JSON value.
use Rattle.std.specs.Prelude.{ℕ, nat_lt, nat_le, ℤ, List, [], ◌∷◌, length, Option, Some, None}
use Rattle.std.specs.Prelude.{option_map, option_and_then, if◌then◌else◌}
use Rattle.serde_json.specs.Data.{Data, Items, no_items, item}
use Rattle.serde_json.specs.Find.{as_array, as_number, as_u64, as_i64}

-- the number, if it is below the bound
abbrev pub if_below : ℕ → ℕ → Option ℕ
if_below bound n = if nat_lt n bound then Some n else None

-- the value of a JSON number that is below the bound and written as digits alone; None for any
-- other JSON value
unfoldable pub whole : ℕ → Data → Option ℕ
whole bound d = option_and_then (if_below bound) (option_and_then as_u64 (as_number d))

-- the value of a JSON number that fits in 64 signed bits and is written as digits, with or without
-- a minus sign; None for any other JSON value, and for `-0`
abbrev pub signed : Data → Option ℤ
signed d = option_and_then as_i64 (as_number d)

-- the elements of an array, as a list
abbrev pub list_of : Items → List Data
list_of no_items = []
list_of (item d ds) = d ∷ list_of ds

-- the elements of a JSON array; None for any other value
abbrev pub elements : Data → Option (List Data)
elements d = option_map list_of (as_array d)

-- the list, if it has at most n elements
abbrev pub at_most : {A : Type 0} → ℕ → List A → Option (List A)
at_most n xs = if nat_le (length xs) n then Some xs else None

-- f of each element, if it has a value for all of them
abbrev pub every : {A B : Type 0} → (A → Option B) → List A → Option (List B)
every f [] = Some []
every f (x ∷ xs) = option_and_then (λ y. option_map (λ ys. y ∷ ys) (every f xs)) (f x)

-- f of each element of an array of at most n elements, if it has a value for all of them
abbrev pub each_of_at_most : {B : Type 0} → ℕ → (Data → Option B) → Data → Option (List B)
each_of_at_most n f d = option_and_then (every f) (option_and_then (at_most n) (elements d))
