-- The slot of a key in a list of entries, or the slot at which to insert it.
use Rattle.std.specs.Prelude.{◌≡◌, ◌<◌, ◌≤◌, ℕ, ℤ, List, length, get_or, slice_set, Option, Some}
use Rattle.std.specs.Prelude.{None}
use Rattle.std.specs.List.{insert}
use Rattle.std.specs.FinMap.{find, put}
use Rattle.epx_types.specs.Keys.{key_cmp}

-- the key is at slot i, and putting a value under it replaces that entry
pub record IsAtSlot (es : List (List ℕ × Option ℤ)) (k : List ℕ) (i : ℕ) : Type 0 where
  pub within : i < length es
  pub found : (d : List ℕ × Option ℤ) → find key_cmp k es ≡ Some (get_or es i d).1
  pub put : (v : Option ℤ) → put key_cmp k v es ≡ slice_set es i (k, v)

-- the key is absent, and putting a value under it inserts an entry before slot i
pub record IsInsertedAt (es : List (List ℕ × Option ℤ)) (k : List ℕ) (i : ℕ) : Type 0 where
  pub within : i ≤ length es
  pub absent : find key_cmp k es ≡ None
  pub put : (v : Option ℤ) → put key_cmp k v es ≡ insert es i (k, v)
