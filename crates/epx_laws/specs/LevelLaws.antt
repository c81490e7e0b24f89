-- Laws of conflict levels.
use Rattle.std.specs.Prelude.{◌≢◌, ◌↔◌, ℕ, ◌<◌, ◌≤◌, List, length, slice_index, flat_map, Contains}
use Rattle.std.specs.Prelude.{AllPairs}
use Rattle.std.specs.List.{range_with_len}
use Rattle.epx_types.specs.declared.op.Op.{Op}
use Rattle.epx_types.specs.LawfulOrders.{Before}
use Rattle.epx_types.specs.Levels.{ConflictAt, IsLevel, AreLevels, level_count, level_positions}
use Rattle.epx_types.specs.Levels.{RisesWithConflicts}
use Rattle.epx_types.specs.Rearrangements.{IsRearrangement}
use Rattle.epx_laws.specs.AtMostOne.{AtMostOne}

-- every list of commands has levels
abbrev pub LevelsExist : Type 0
LevelsExist = (commands : List (List Op)) → (levels : List ℕ) × AreLevels commands levels

-- two levels of one position are equal
abbrev pub LevelIsUnique : Type 0
LevelIsUnique = (commands : List (List Op)) (j : ℕ) → AtMostOne (IsLevel commands j)

-- two lists of the levels of the same commands are equal
abbrev pub LevelsAreUnique : Type 0
LevelsAreUnique = (commands : List (List Op)) → AtMostOne (AreLevels commands)

-- two commands of one level do not conflict
abbrev pub LevelHasNoConflict : Type 0
LevelHasNoConflict = (commands : List (List Op)) (i j l : ℕ) → i ≢ j → IsLevel commands i l
    → IsLevel commands j l → ¬ ConflictAt commands i j

-- of two commands that conflict, the later has the greater level
abbrev pub ConflictsClimb : Type 0
ConflictsClimb = (commands : List (List Op)) (i j k l : ℕ) → i < j → ConflictAt commands i j
    → IsLevel commands i k → IsLevel commands j l → k < l

-- if each position has a number, and of any two commands that conflict the later has the greater
-- number, the level of a position is at most its number
abbrev pub LevelsAreLeast : Type 0
LevelsAreLeast = (commands : List (List Op)) (f : ℕ → ℕ) → RisesWithConflicts commands f
    → (j l : ℕ) → IsLevel commands j l → l ≤ f j

-- if each position has a number, and of any two commands that conflict the later has the greater
-- number, every list that contains the numbers of all positions has at least as many elements as
-- there are levels
abbrev pub LevelsAreFewest : Type 0
LevelsAreFewest = (commands : List (List Op)) (f : ℕ → ℕ) → RisesWithConflicts commands f
    → (levels : List ℕ) → AreLevels commands levels →
    (numbers : List ℕ) → ((j : ℕ) → j < length commands → Contains numbers (f j))
    → level_count levels ≤ length numbers

-- each number below the number of levels is the level of some command
abbrev pub EachLevelIsReached : Type 0
EachLevelIsReached = (commands : List (List Op)) (levels : List ℕ) → AreLevels commands levels
    → (l : ℕ) → l < level_count levels → Contains levels l

-- `positions` has each position of `levels` once, and one of a lower level before one of a higher
-- level; those of one level are in any order
pub record AreByLevel (levels positions : List ℕ) : Type 0 where
  pub once : AllPairs (λ i j. i ≢ j) positions
  pub whole : (i : ℕ) → Contains positions i ↔ (i < length levels)
  pub lower_first : (i j : ℕ) → i < length levels → j < length levels
      → slice_index levels i < slice_index levels j → Before positions i j

-- for the levels of some commands, positions by level (`AreByLevel`) are a rearrangement: they keep
-- the order of commands that conflict
abbrev pub LevelsRearrange : Type 0
LevelsRearrange = (commands : List (List Op)) (levels positions : List ℕ)
    → AreLevels commands levels → AreByLevel levels positions → IsRearrangement commands positions

-- the positions of level 0, then those of level 1, and so on, are by level
abbrev pub LevelsInTurnAreByLevel : Type 0
LevelsInTurnAreByLevel = (levels : List ℕ)
    → AreByLevel levels (flat_map (level_positions levels) (range_with_len 0 (level_count levels)))
