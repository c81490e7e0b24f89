-- Keys whose touches are not all found to be related.
use Rattle.std.specs.Prelude.{◌≡◌, ◌⊎◌, ℕ, ◌<◌, List, Bool, length, slice_get, slice_index, Some}
use Rattle.std.specs.Prelude.{Contains, IsTrue}
use Rattle.epx_types.specs.Conflicts.{Conflict}
use Rattle.epx_types.specs.Instances.{Instance}
use Rattle.epx_graph.specs.Graphs.{DependencyGraph, edges_of}
use Rattle.epx_graph.specs.NodePaths.{NodeReaches}
use Rattle.epx_audit.specs.declared.doubtful_touches.DoubtfulTouch.{DoubtfulTouch}
use Rattle.epx_audit.specs.declared.touches.KeyUse.{KeyUse}
use Rattle.epx_components.specs.between.ReadyMarks.{is_marked, AreReadyMarks}

-- a touch of a key, by the number of the key and the node at the position of the touch in an order
abbrev pub doubtful_touch : List ℕ → ℕ → KeyUse → DoubtfulTouch
doubtful_touch nodes key t =
    record { key = key; node = slice_index nodes t.position; writes = t.writes }

-- both nodes touch one doubtful key, and one of them writes it
pub record ShareKey (touches : List DoubtfulTouch) (k j : ℕ) : Type 0 where
  pub mine : DoubtfulTouch
  pub other : DoubtfulTouch
  pub held : Contains touches mine × Contains touches other
  pub nodes : (mine.node ≡ k) × (other.node ≡ j)
  pub alike : mine.key ≡ other.key
  pub writes : IsTrue mine.writes ⊎ IsTrue other.writes

-- one of the two nodes reaches the other
abbrev pub AreRelated : (ℕ → List ℕ) → ℕ → ℕ → Type 0
AreRelated edges k j = NodeReaches edges k j ⊎ NodeReaches edges j k

-- nodes of ready instances that conflict and are not related share a doubtful key
abbrev pub HoldAllConflicts : List Instance → (ℕ → List ℕ) → List Bool → List DoubtfulTouch
    → Type 0
HoldAllConflicts m edges ready touches =
    (k j : ℕ) (d e : Instance) → k < j → slice_get m k ≡ Some d → slice_get m j ≡ Some e →
    IsTrue (is_marked ready k) → IsTrue (is_marked ready j) → Conflict d.ops e.ops →
    AreRelated edges k j ⊎ ShareKey touches k j

-- each touch is of one of this many nodes, and of one of this many keys
abbrev pub AreInRange : ℕ → ℕ → List DoubtfulTouch → Type 0
AreInRange nodes keys touches =
    (t : DoubtfulTouch) → Contains touches t → (t.node < nodes) × (t.key < keys)

-- two nodes that share a doubtful key are related, or the first one is marked
abbrev pub HoldUnsettled : (ℕ → List ℕ) → List DoubtfulTouch → List Bool → Type 0
HoldUnsettled edges touches unsettled = (k j : ℕ) → ShareKey touches k j
    → IsTrue (is_marked unsettled k) ⊎ AreRelated edges k j

-- the touches of the doubtful keys of a map, and the marks of the nodes
pub record AreDoubtful (m : List Instance) (g : DependencyGraph) (keys : ℕ)
    (touches : List DoubtfulTouch) (unsettled : List Bool) : Type 0 where
  pub in_range : AreInRange (length m) keys touches
  pub marks : length unsettled ≡ length m
  pub settled : HoldUnsettled (edges_of g) touches unsettled
  pub whole : (ready : List Bool) → AreReadyMarks g ready
      → HoldAllConflicts m (edges_of g) ready touches

-- if node j is ready and shares a doubtful key with k, the two are related
abbrev pub IsRelatedOrFree : (ℕ → List ℕ) → List Bool → List DoubtfulTouch → ℕ → ℕ → Type 0
IsRelatedOrFree edges ready touches k j =
    IsTrue (is_marked ready j) → ShareKey touches k j → AreRelated edges k j
