-- Nodes of ready instances that conflict, related or not.
use Rattle.std.specs.Prelude.{◌≡◌, ◌⊎◌, ℕ, ◌<◌, List, Bool, slice_get, Some, Contains, IsTrue}
use Rattle.epx_types.specs.CommandKeys.{touched_keys, written_keys}
use Rattle.epx_types.specs.Conflicts.{Conflict}
use Rattle.epx_types.specs.Instances.{Instance}
use Rattle.epx_graph.specs.NodePaths.{NodeReaches}
use Rattle.epx_components.specs.between.ReadyMarks.{is_marked}

-- the keys that a command touches, and those that it writes
pub record KeyLists : Type 0 where
  pub touched : List (List ℕ)
  pub written : List (List ℕ)

-- the keys that the operations of an instance touch and write, also if the command aborts
abbrev pub keys_of : Instance → KeyLists
keys_of d = record { touched = touched_keys d.ops; written = written_keys d.ops }

-- one writes a key that the other touches
abbrev pub KeysConflict : KeyLists → KeyLists → Type 0
KeysConflict v w = (k : List ℕ)
    × ((Contains v.written k × Contains w.touched k)
    ⊎ (Contains v.touched k × Contains w.written k))

-- if the nodes are of ready instances that conflict, one reaches the other
abbrev pub IsSettled : List Instance → (ℕ → List ℕ) → List Bool → ℕ → ℕ → Type 0
IsSettled m edges ready k j = (d e : Instance) → slice_get m k ≡ Some d → slice_get m j ≡ Some e
    → IsTrue (is_marked ready k) → IsTrue (is_marked ready j) → Conflict d.ops e.ops
    → NodeReaches edges k j ⊎ NodeReaches edges j k

-- the nodes are of ready instances that conflict, and neither reaches the other
pub record IsUnsettled (m : List Instance) (edges : ℕ → List ℕ) (ready : List Bool)
    (k j : ℕ) : Type 0 where
  pub conflict : (d e : Instance) × (slice_get m k ≡ Some d) × (slice_get m j ≡ Some e)
      × Conflict d.ops e.ops
  pub both_ready : IsTrue (is_marked ready k) × IsTrue (is_marked ready j)
  pub apart : (¬ NodeReaches edges k j) × (¬ NodeReaches edges j k)

-- the least node above k that is not settled with k
pub record IsPartner (m : List Instance) (edges : ℕ → List ℕ) (ready : List Bool) (k j : ℕ) : Type
    0 where
  pub above : k < j
  pub unsettled : IsUnsettled m edges ready k j
  pub least : (i : ℕ) → k < i → i < j → IsSettled m edges ready k i
