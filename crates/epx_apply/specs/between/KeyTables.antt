-- Tables with the numbers of the commands so far that touch each key and that write it. A number
-- is a level, or any other that the caller notes.
use Rattle.std.specs.Prelude.{◌≡◌, ◌⊎◌, ℕ, suc, ◌<◌, Bool, List, [], ◌∷◌, ◌++◌, length, map}
use Rattle.std.specs.Prelude.{flat_map, slice_index_or, Contains}
use Rattle.epx_types.specs.declared.op.Op.{Op}
use Rattle.epx_types.specs.CommandKeys.{accesses_of, touched_by, written_by}
use Rattle.epx_types.specs.Conflicts.{Conflict}
use Rattle.epx_apply.specs.declared.key_table.KeyLevels.{KeyLevels}
use Rattle.epx_apply.specs.declared.key_table.TableAccess.{TableAccess}

-- the keys by their numbers, the levels of each key, and the accesses of the current command
pub record KeyTableView : Type 0 where
  pub keys : List (List ℕ)
  pub key_levels : List KeyLevels
  pub accesses : List TableAccess

-- the levels of a key that no command has touched
abbrev pub untouched_levels : KeyLevels
untouched_levels = record { writers = 0; touchers = 0 }

-- the levels of the key with the number x; for other numbers, those of a key that no command has
-- touched
abbrev pub key_levels_at : List KeyLevels → ℕ → KeyLevels
key_levels_at key_levels x = slice_index_or key_levels x untouched_levels

-- the key with the number x; the empty list if no key has this number
abbrev pub key_at : List (List ℕ) → ℕ → List ℕ
key_at keys x = slice_index_or keys x []

-- the keys that a command touches, operation by operation, with repeats
abbrev pub touched_in : List Op → List (List ℕ)
touched_in ops = flat_map touched_by ops

-- the keys that a command writes, operation by operation, with repeats
abbrev pub written_in : List Op → List (List ℕ)
written_in ops = flat_map written_by ops

-- n is one above the greatest number of the done commands that have the key k among their
-- `keys_of`, or 0 if none has it
pub record IsLevelAbove (keys_of : List Op → List (List ℕ)) (done : List (List Op × ℕ))
    (k : List ℕ) (n : ℕ) : Type 0 where
  pub above : (ops : List Op) (l : ℕ) → Contains done (ops, l) → Contains (keys_of ops) k → l < n
  pub reached : (n ≡ 0) ⊎ ((ops : List Op) × (l : ℕ) × Contains done (ops, l)
      × Contains (keys_of ops) k × (n ≡ suc l))

-- t has the keys that the done commands touch; for each key one above the greatest number of those
-- that touch it, and of those that write it, or 0; and as its accesses `current`, the keys of the
-- current command so far, each marked true if it is written
pub record IsKeyTableOf (done : List (List Op × ℕ)) (current : List (List ℕ × Bool))
    (t : KeyTableView) : Type 0 where
  -- each key that a done command touches has a number in the table
  pub known : (ops : List Op) (l : ℕ) (k : List ℕ) → Contains done (ops, l)
      → Contains (touched_in ops) k → Contains t.keys k
  pub no_repeats : (x y : ℕ) → x < length t.keys → y < length t.keys
      → key_at t.keys x ≡ key_at t.keys y → x ≡ y
  pub key_levels : length t.key_levels ≡ length t.keys
  pub touchers : (x : ℕ) → x < length t.keys
      → IsLevelAbove touched_in done (key_at t.keys x) (key_levels_at t.key_levels x).touchers
  pub writers : (x : ℕ) → x < length t.keys
      → IsLevelAbove written_in done (key_at t.keys x) (key_levels_at t.key_levels x).writers
  -- the accesses, each with its key in place of the number, are those of the current command so
  -- far
  pub current_keys : map (λ a. (key_at t.keys a.key, a.writes)) t.accesses ≡ current
  pub within : (a : TableAccess) → Contains t.accesses a → a.key < length t.keys

-- n is one above the greatest number of the done commands that conflict with this one, or 0 if
-- there is none
pub record IsLeastAbove (done : List (List Op × ℕ)) (ops : List Op) (n : ℕ) : Type 0 where
  pub above : (earlier : List Op) (l : ℕ) → Contains done (earlier, l) → Conflict earlier ops
      → l < n
  pub reached : (n ≡ 0)
      ⊎ ((earlier : List Op) × (l : ℕ) × Contains done (earlier, l) × Conflict earlier ops
      × (n ≡ suc l))

-- if the old table has no keys of a current command, the new one has those of `ops`, and n is one
-- above the greatest number of the done commands that conflict with `ops`, or 0 if there is none
abbrev pub CollectsCommand : List Op → ℕ → KeyTableView → KeyTableView → Type 0
CollectsCommand ops n old new = (done : List (List Op × ℕ)) → IsKeyTableOf done [] old
    → IsLeastAbove done ops n × IsKeyTableOf done (flat_map accesses_of ops) new

-- if the old table has all keys of a current command, the new one has that command among the done
-- ones, with this number, and no keys of a current command
abbrev pub NotesCommand : ℕ → KeyTableView → KeyTableView → Type 0
NotesCommand number old new = (done : List (List Op × ℕ)) (ops : List Op)
    → IsKeyTableOf done (flat_map accesses_of ops) old
    → IsKeyTableOf (done ++ (ops, number) ∷ []) [] new
