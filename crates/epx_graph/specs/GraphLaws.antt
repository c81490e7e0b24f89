-- Laws of the graphs of committed maps.
use Rattle.std.specs.Prelude.{◌≡◌, List}
use Rattle.epx_types.specs.Ids.{IsRising}
use Rattle.epx_types.specs.Instances.{Instance}
use Rattle.epx_types.specs.CommittedMap.{ids_of}
use Rattle.epx_graph.specs.Graphs.{DependencyGraph}
use Rattle.epx_graph.specs.GraphOf.{IsGraphOf}

-- a committed map, whose Ids rise, has a graph
abbrev pub GraphExists : Type 0
GraphExists = (m : List Instance) → IsRising (ids_of m) → (g : DependencyGraph) × IsGraphOf m g

-- a map has at most one graph
abbrev pub GraphIsUnique : Type 0
GraphIsUnique = (m : List Instance) (g h : DependencyGraph) → IsGraphOf m g → IsGraphOf m h → g ≡ h
