-- A list of instances, as a list of nodes.
use Rattle.std.specs.Prelude.{◌≡◌, ◌↔◌, ℕ, ◌<◌, List, Bool, length, slice_get, slice_index, Some}
use Rattle.std.specs.Prelude.{IsTrue}
use Rattle.epx_types.specs.declared.id.Id.{Id}
use Rattle.epx_types.specs.Instances.{Instance}
use Rattle.epx_graph.specs.Graphs.{DependencyGraph}
use Rattle.epx_ranking.specs.OrderFaults.{IsRepeatAt, IsStrangerAt, ReadyOnce}
use Rattle.epx_ranking.specs.declared.order_fault.OrderFault.{OrderFault}
use Rattle.epx_ranking.specs.declared.order_fault.OrderFault.TheVariants.{Memory, Stranger, Repeat}
use Rattle.epx_components.specs.between.ReadyMarks.{is_marked}

-- the nodes of the first n instances of a list, and for each node whether it is one of them
pub record AreListed (g : DependencyGraph) (ids : List Id) (n : ℕ) (nodes : List ℕ)
    (marks : List Bool) : Type 0 where
  pub whole : length nodes ≡ n
  pub each : (i : ℕ) (x : Id) → i < n → slice_get ids i ≡ Some x
      → slice_get g.ids (slice_index nodes i) ≡ Some x
  pub marks_whole : length marks ≡ length g.ids
  pub marked : (k : ℕ) → IsTrue (is_marked marks k)
      ↔ ((i : ℕ) × (i < n) × (slice_index nodes i ≡ k))

-- a node that is marked as ready is marked as listed
abbrev pub IsListedIfReady : List Bool → List Bool → ℕ → Type 0
IsListedIfReady ready marks k = IsTrue (is_marked ready k) → IsTrue (is_marked marks k)

-- the nodes and marks of a list of ready instances, each once
pub record AreListedReady (m : List Instance) (g : DependencyGraph) (ids : List Id)
    (nodes : List ℕ) (marks : List Bool) : Type 0 where
  pub listed : AreListed g ids (length ids) nodes marks
  pub once : ReadyOnce m ids (length ids)

-- the least place that is wrong by itself
abbrev pub IsListingFault : List Instance → List Id → OrderFault → Type 0
IsListingFault m ids Memory = Unit {0}
IsListingFault m ids (Stranger place) = IsStrangerAt m ids place × ReadyOnce m ids place
IsListingFault m ids (Repeat place) = IsRepeatAt m ids place × ReadyOnce m ids place
IsListingFault m ids _ = ⊥
