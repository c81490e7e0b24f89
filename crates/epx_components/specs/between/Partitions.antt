-- The components of a graph's nodes, numbered so that no edge leads to a component with a greater
-- number.
use Rattle.std.specs.Prelude.{◌≡◌, ◌≢◌, ℕ, ◌<◌, ◌≤◌, List, length, slice_index, Bool}
use Rattle.std.specs.Prelude.{slice_index_or, false, Contains, All}
use Rattle.epx_graph.specs.Graphs.{DependencyGraph, edges_of}
use Rattle.epx_graph.specs.NodePaths.{NodeReaches}
use Rattle.epx_components.specs.declared.partition.Partition.{Partition}

-- the component of each node, the nodes by rising component, and the number of components
pub record ComponentParts : Type 0 where
  pub component : List ℕ
  pub order : List ℕ
  pub count : ℕ

-- the model of a partition
abbrev pub parts : Partition → ComponentParts
parts p = record { component = p.component.items; order = p.order.items; count = p.count }

-- no edge leads to a component with a greater number
abbrev pub EdgesFall : (ℕ → List ℕ) → List ℕ → Type 0
EdgesFall edges component = (k j : ℕ) → Contains (edges k) j
    → slice_index component j ≤ slice_index component k

-- the nodes of a component reach each other
abbrev pub MembersReach : (ℕ → List ℕ) → List ℕ → Type 0
MembersReach edges component = (k j : ℕ) → k < length component → j < length component
    → slice_index component k ≡ slice_index component j → NodeReaches edges k j

-- components with numbers, such that no edge leads to a greater number and two nodes of one number
-- reach each other; and a list of the nodes, each once, by rising component
pub record IsPartition (edges : ℕ → List ℕ) (p : ComponentParts) : Type 0 where
  pub within : (k j : ℕ) → Contains (edges k) j → j < length p.component
  pub falls : EdgesFall edges p.component
  pub joined : MembersReach edges p.component
  -- the components in use are those below the count
  pub counted : All (λ c. c < p.count) p.component
  pub each : (c : ℕ) → c < p.count → Contains p.component c
  -- the order has each node once, by rising component
  pub listed : (k : ℕ) → k < length p.component → Contains p.order k
  pub nodes : All (λ k. k < length p.component) p.order
  pub once : (i j : ℕ) → i < j → j < length p.order
      → slice_index p.order i ≢ slice_index p.order j
  pub sorted : (i j : ℕ) → i ≤ j → j < length p.order
      → slice_index p.component (slice_index p.order i)
      ≤ slice_index p.component (slice_index p.order j)

-- p has the components of all nodes of the graph g
pub record IsPartitionOf (g : DependencyGraph) (p : ComponentParts) : Type 0 where
  pub each_node : length p.component ≡ length g.ids
  pub is : IsPartition (edges_of g) p

-- the component of a node
abbrev pub component_of : ComponentParts → ℕ → ℕ
component_of p k = slice_index p.component k

-- the node at this position of the order
abbrev pub node_at : ComponentParts → ℕ → ℕ
node_at p i = slice_index p.order i

-- the number of a node's component, from a list with a number for each component
abbrev pub number_for : ComponentParts → List ℕ → ℕ → ℕ
number_for p numbers k = slice_index numbers (component_of p k)

-- the mark of a node's component, from a list with a mark for each component
abbrev pub mark_for : ComponentParts → List Bool → ℕ → Bool
mark_for p marks k = slice_index_or marks (component_of p k) false
