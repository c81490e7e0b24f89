-- The graph of a committed map.
use Rattle.std.specs.Prelude.{◌≡◌, ◌↔◌, ℕ, List, Contains, Some, slice_get}
use Rattle.epx_types.specs.declared.id.Id.{Id}
use Rattle.epx_types.specs.Instances.{Instance}
use Rattle.epx_types.specs.CommittedMap.{ids_of, IsCommitted}
use Rattle.epx_types.specs.Done.{remaining}
use Rattle.epx_types.specs.Reaching.{DependsOn}
use Rattle.epx_graph.specs.Graphs.{DependencyGraph, edges_of, committed_ids, missing_ids, IsGraph}

-- y is a dependency of a committed instance, and is not committed itself
abbrev pub IsMissing : List Instance → Id → Type 0
IsMissing m y = ((x : Id) × DependsOn m x y) × ¬ IsCommitted m y

-- the committed instances, then the missing ones; an edge from one to another exactly if the first
-- depends on the second
pub record IsGraphOf (m : List Instance) (g : DependencyGraph) : Type 0 where
  pub graph : IsGraph g
  pub committed : committed_ids g ≡ ids_of m
  pub missing : (x : Id) → Contains (missing_ids g) x ↔ IsMissing m x
  pub edges : (k j : ℕ) (x y : Id) → slice_get g.ids k ≡ Some x → slice_get g.ids j ≡ Some y
      → Contains (edges_of g k) j ↔ DependsOn m x y

-- the graph of what is left of the map, for some list of done Ids
abbrev pub IsGraphOfRest : List Instance → DependencyGraph → Type 0
IsGraphOfRest m g = (done : List Id) × IsGraphOf (remaining done m) g
