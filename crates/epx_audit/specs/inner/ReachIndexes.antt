-- Reachability between the nodes of an order, by its chains.
use Rattle.std.specs.Prelude.{◌≡◌, ℕ, ◌-◌, ◌<◌, ◌≤◌, List, length, slice_get, slice_index, Some}
use Rattle.std.specs.Prelude.{All, IfSome}
use Rattle.epx_types.specs.CommittedMap.{ids_of}
use Rattle.epx_types.specs.ExecutionOrder.{Ranked}
use Rattle.epx_types.specs.Instances.{Instance}
use Rattle.epx_graph.specs.Graphs.{DependencyGraph, edges_of}
use Rattle.epx_graph.specs.NodePaths.{NodeReaches}
use Rattle.epx_audit.specs.declared.reach_index.Chain.{Chain}
use Rattle.epx_audit.specs.declared.reach_index.ReachIndex.{ReachIndex}
use Rattle.epx_audit.specs.inner.PathCovers.{IsPathCover}

-- the node at each position of an order
pub record AreOrderNodes (m : List Instance) (order : List Ranked) (nodes : List ℕ) : Type 0 where
  pub whole : length nodes ≡ length order
  pub each : (p : ℕ) (r : Ranked) → slice_get order p ≡ Some r
      → slice_get (ids_of m) (slice_index nodes p) ≡ Some r.id

-- nodes at positions with the same leader reach each other
abbrev pub LeadersJoin : (ℕ → List ℕ) → List Ranked → List ℕ → Type 0
LeadersJoin edges order nodes = (p q : ℕ) (r s : Ranked) → slice_get order p ≡ Some r
    → slice_get order q ≡ Some s → r.leader ≡ s.leader
    → NodeReaches edges (slice_index nodes p) (slice_index nodes q)

-- of the first n positions the last is reached from the start of its component; it reaches all
-- positions from the start of its chain on
pub record IsChain (edges : ℕ → List ℕ) (nodes : List ℕ) (n : ℕ) (chain : Chain) : Type 0 where
  pub start : 0 < n → (chain.start < n)
      × NodeReaches edges (slice_index nodes chain.start) (slice_index nodes (n - 1))
  pub down : (q : ℕ) → chain.low ≤ q → q < n
      → NodeReaches edges (slice_index nodes (n - 1)) (slice_index nodes q)

-- each node reaches the nodes at all positions from its chain's start up to its own; each position
-- is reached from the start of its component; the cover, if there is one, is of these nodes
pub record IsReachIndex (g : DependencyGraph) (w : ReachIndex) : Type 0 where
  pub in_range : All (λ k. k < length g.ids) w.nodes.items
  pub one_start_each : length w.starts.items ≡ length w.nodes.items
  pub each_node : (length w.positions.items ≡ length g.ids)
      × (length w.chain_start.items ≡ length g.ids)
  pub start : (p : ℕ) → p < length w.nodes.items
      → (slice_index w.starts.items p < length w.nodes.items)
      × NodeReaches (edges_of g) (slice_index w.nodes.items (slice_index w.starts.items p))
      (slice_index w.nodes.items p)
  pub down : (k q : ℕ) → k < length g.ids → slice_index w.chain_start.items k ≤ q
      → q ≤ slice_index w.positions.items k → (q < length w.nodes.items)
      × NodeReaches (edges_of g) k (slice_index w.nodes.items q)
  pub cover : IfSome w.cover (IsPathCover g w.nodes.items)
