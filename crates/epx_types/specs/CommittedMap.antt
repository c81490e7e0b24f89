-- The committed map: the instances that lines commit, each once, by rising Id.
use Rattle.std.specs.Prelude.{◌≡◌, ℕ, List, [], map, Contains, Option, None, Some, find, position}
use Rattle.std.specs.Ordering.{is_eq}
use Rattle.epx_types.specs.declared.id.Id.{Id}
use Rattle.epx_types.specs.declared.op.Op.{Op}
use Rattle.epx_types.specs.Ids.{id_cmp, IsRising}
use Rattle.epx_types.specs.Instances.{Instance}
use Rattle.epx_types.specs.PlacedLines.{Placed}

-- the Ids of some instances, in the order of the instances
abbrev pub ids_of : List Instance → List Id
ids_of m = map (λ e. e.id) m

-- the instance that an Id names; None if the map has none, so that the Id is not committed
abbrev pub instance_of : List Instance → Id → Option Instance
instance_of m x = find (λ e. is_eq (id_cmp e.id x)) m

-- the operations of an instance, none where there is no instance
abbrev pub ops_or_empty : Option Instance → List Op
ops_or_empty None = []
ops_or_empty (Some e) = e.ops

-- the command of each of these Ids in the map, in the order of the Ids; an Id that is not in the
-- map counts as a command without operations
abbrev pub commands_in : List Instance → List Id → List (List Op)
commands_in m ids = map (λ x. ops_or_empty (instance_of m x)) ids

-- the position of an Id among the instances of the map, from 0; None if it is not there
abbrev pub position_of : List Instance → Id → Option ℕ
position_of m x = position (λ e. is_eq (id_cmp e.id x)) m

-- an Id is committed if the map has its instance
abbrev pub IsCommitted : List Instance → Id → Type 0
IsCommitted m x = Contains (ids_of m) x

-- the map m has exactly the instances that the lines commit, each once, by rising Id; there is such
-- a map only if the lines agree
pub record IsCommittedBy (lines : List Placed) (m : List Instance) : Type 0 where
  pub rising : IsRising (ids_of m)
  -- each instance of the map is that of some line
  pub given : (e : Instance) → Contains m e → (p : Placed) × Contains lines p × (p.instance ≡ e)
  -- the instance of each line is in the map
  pub whole : (p : Placed) → Contains lines p → Contains m p.instance
