-- Laws of the algorithm by which the protocol executes, component by component.
use Rattle.std.specs.Prelude.{◌↔◌, List, Contains, AllPairs}
use Rattle.std.specs.List.{flat_map}
use Rattle.epx_types.specs.declared.id.Id.{Id}
use Rattle.epx_types.specs.Ids.{IsRising}
use Rattle.epx_types.specs.Instances.{Instance}
use Rattle.epx_types.specs.CommittedMap.{ids_of}
use Rattle.epx_types.specs.Components.{InOneComponent}
use Rattle.epx_types.specs.LawfulOrders.{SequenceBefore, IsLawful}
use Rattle.epx_types.specs.Reaching.{Reaches}
use Rattle.epx_types.specs.Readiness.{IsReady}

-- the members of the components, one component after another
abbrev pub all_members : List (List Id) → List Id
all_members components = flat_map (λ c. c) components

-- The components of the ready instances, as the protocol executes them. Their members are the
-- ready instances. The members of one component reach each other. A component comes after each
-- that it reaches. Inside a component the members come by sequence number, replica and number
pub record AreSortedComponents (m : List Instance) (components : List (List Id)) : Type 0 where
  pub members : (x : Id) → Contains (all_members components) x ↔ IsReady m x
  pub together : (c : List Id) → Contains components c → (x y : Id) → Contains c x → Contains c y
      → InOneComponent m x y
  pub reached_first : AllPairs
      (λ c d. (x y : Id) → Contains c x → Contains d y → ¬ Reaches m x y) components
  pub by_sequence : (c : List Id) → Contains components c → AllPairs (SequenceBefore m) c

-- the members of sorted components (`AreSortedComponents`) of a committed map, one component after
-- another, are a lawful order
abbrev pub AlgorithmIsLawful : Type 0
AlgorithmIsLawful = (m : List Instance) → IsRising (ids_of m) → (components : List (List Id))
    → AreSortedComponents m components → IsLawful m (all_members components)

-- each committed map has sorted components
abbrev pub SortedComponentsExist : Type 0
SortedComponentsExist = (m : List Instance) → IsRising (ids_of m)
    → (components : List (List Id)) × AreSortedComponents m components
