-- What nodes have to do with the sources of a batch. Only the search for an uncovered pair uses
-- this.
use Rattle.std.specs.Prelude.{◌≡◌, ◌↔◌, ℕ, ◌<◌, ◌≤◌, List, Bool, length, slice_index, All, IsTrue}
use Rattle.epx_graph.specs.Graphs.{DependencyGraph, edges_of}
use Rattle.epx_graph.specs.NodePaths.{NodeReaches}
use Rattle.epx_components.specs.between.Partitions.{ComponentParts, number_for}
use Rattle.epx_audit.specs.declared.batch.SourceBatch.{SourceBatch}
use Rattle.epx_audit.specs.declared.doubtful_touches.DoubtfulTouch.{DoubtfulTouch}
use Rattle.epx_audit.specs.inner.DoubtfulKeys.{ShareKey}
use Rattle.epx_components.specs.between.ReadyMarks.{is_marked}
use Rattle.epx_audit.specs.inner.SourceBits.{has_bit}

-- bit b of a component's word: source b reaches it
abbrev pub AreReachedBy : DependencyGraph → ComponentParts → List ℕ → List ℕ → Type 0
AreReachedBy g p sources words =
    (b k : ℕ) → b < length sources → k < length g.ids →
    IsTrue (has_bit b (number_for p words k)) ↔ NodeReaches (edges_of g) (slice_index sources b) k

-- bit b of a component's word: it reaches source b
abbrev pub AreReaching : DependencyGraph → ComponentParts → List ℕ → List ℕ → Type 0
AreReaching g p sources words =
    (b k : ℕ) → b < length sources → k < length g.ids →
    IsTrue (has_bit b (number_for p words k)) ↔ NodeReaches (edges_of g) k (slice_index sources b)

-- bit b of a node's word is set at least if source b shares a doubtful key with the node
abbrev pub AreSharing : List DoubtfulTouch → List ℕ → List ℕ → Type 0
AreSharing touches sources words =
    (b j : ℕ) → b < length sources → ShareKey touches (slice_index sources b) j →
    IsTrue (has_bit b (slice_index words j))

-- the batch has one word for each component and one for each node
pub record IsWhole (p : ComponentParts) (ready : List Bool) (batch : SourceBatch) : Type 0 where
  pub counted : All (λ c. c < p.count) p.component
  pub components : (length batch.reached.items ≡ p.count) × (length batch.reaching.items ≡ p.count)
  pub nodes : (length batch.sharing.items ≡ length p.component)
      × (length ready ≡ length p.component)

-- the words of a batch of at most 64 sources: for each component exactly the sources that reach
-- it, and those that it reaches; for each node at least the sources that share a doubtful key with
-- it
pub record IsBatch (g : DependencyGraph) (p : ComponentParts) (touches : List DoubtfulTouch)
    (sources : List ℕ) (batch : SourceBatch) : Type 0 where
  pub few : length sources ≤ 64
  pub nodes : length p.component ≡ length g.ids
  pub whole : (length batch.reached.items ≡ p.count) × (length batch.reaching.items ≡ p.count)
      × (length batch.sharing.items ≡ length g.ids)
  pub reached : AreReachedBy g p sources batch.reached.items
  pub reaching : AreReaching g p sources batch.reaching.items
  pub sharing : AreSharing touches sources batch.sharing.items

-- a ready node that does not reach k and is not reached from k
pub record IsReadyApart (edges : ℕ → List ℕ) (ready : List Bool) (k j : ℕ) : Type 0 where
  pub is_ready : IsTrue (is_marked ready j)
  pub apart : (¬ NodeReaches edges k j) × (¬ NodeReaches edges j k)
