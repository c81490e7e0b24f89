-- Rearrangements of a list of commands that keep the order of any two that conflict.
use Rattle.std.specs.Prelude.{◌≢◌, ℕ, ◌<◌, List, [], map, length, Contains, AllPairs}
use Rattle.std.specs.Prelude.{slice_index_or}
use Rattle.epx_types.specs.declared.op.Op.{Op}
use Rattle.epx_types.specs.Levels.{ConflictAt}
use Rattle.epx_types.specs.LawfulOrders.{Before}

-- the commands at these positions, in this order
abbrev pub commands_at : List (List Op) → List ℕ → List (List Op)
commands_at commands positions = map (λ i. slice_index_or commands i []) positions

-- `positions` has each position of the list of commands once; of two commands that conflict, the
-- position of the earlier one comes first
pub record IsRearrangement (commands : List (List Op)) (positions : List ℕ) : Type 0 where
  pub once : AllPairs (λ i j. i ≢ j) positions
  pub only : (i : ℕ) → Contains positions i → i < length commands
  pub whole : (i : ℕ) → i < length commands → Contains positions i
  pub keeps : (i j : ℕ) → i < j → ConflictAt commands i j → Before positions i j
