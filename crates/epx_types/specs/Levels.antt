-- Conflict levels of a list of commands.
use Rattle.std.specs.Prelude.{◌≡◌, ◌==◌, ℕ, suc, max, ◌<◌, ◌≤◌, List, [], ◌∷◌, if◌then◌else◌}
use Rattle.std.specs.Prelude.{length, slice_index, slice_index_or}
use Rattle.epx_types.specs.declared.op.Op.{Op}
use Rattle.epx_types.specs.Conflicts.{Conflict}

-- the commands at two positions conflict; past the end of the list there is no command and no
-- conflict
abbrev pub ConflictAt : List (List Op) → ℕ → ℕ → Type 0
ConflictAt commands i j = Conflict (slice_index_or commands i []) (slice_index_or commands j [])

-- a chain of falling positions from j, in which each command conflicts with the previous one
abbrev pub Climbs : List (List Op) → ℕ → List ℕ → Type 0
Climbs commands j [] = Unit {0}
Climbs commands j (i ∷ is) = (i < j) × ConflictAt commands i j × Climbs commands i is

-- the longest chain of rising positions that ends at j, in which each command conflicts with the
-- next, has `level` steps
pub record IsLevel (commands : List (List Op)) (j level : ℕ) : Type 0 where
  pub chain : (is : List ℕ) × Climbs commands j is × (length is ≡ level)
  pub longest : (is : List ℕ) → Climbs commands j is → length is ≤ level

-- these are the levels of the commands, position by position
pub record AreLevels (commands : List (List Op)) (levels : List ℕ) : Type 0 where
  pub whole : length levels ≡ length commands
  pub each : (j : ℕ) → j < length commands → IsLevel commands j (slice_index levels j)

-- the number of levels: one more than the greatest level in the list, or 0 if it is empty
abbrev pub level_count : List ℕ → ℕ
level_count [] = 0
level_count (level ∷ levels) = max (suc level) (level_count levels)

-- the positions of a level, rising, in a list that begins at position j
abbrev pub level_positions_from : ℕ → List ℕ → ℕ → List ℕ
level_positions_from j [] l = []
level_positions_from j (level ∷ levels) l =
    if level == l then j ∷ level_positions_from (suc j) levels l else level_positions_from (suc j)
    levels l

-- the positions, from 0, at which the list of levels has the level l, in rising order
abbrev pub level_positions : List ℕ → ℕ → List ℕ
level_positions levels l = level_positions_from 0 levels l

-- of two commands that conflict, f is greater at the position of the later one
abbrev pub RisesWithConflicts : List (List Op) → (ℕ → ℕ) → Type 0
RisesWithConflicts commands f = (i j : ℕ) → i < j → ConflictAt commands i j → f i < f j
