-- The list of the marked nodes.
use Rattle.std.specs.Prelude.{◌≡◌, ℕ, ◌<◌, List, Contains, Option, Some, slice_get}
use Rattle.epx_types.specs.Ids.{IsRising}
use Rattle.epx_types.specs.WaitingLists.{Waiting, waiting_ids}
use Rattle.epx_graph.specs.Graphs.{DependencyGraph}
use Rattle.epx_graph.specs.inner.Searches.{node_mark}

-- what a marked node waits for
pub record IsWaiter (g : DependencyGraph) (marks : List (Option ℕ)) (k : ℕ) (w : Waiting) : Type
    0 where
  pub mark : ℕ
  pub marked : node_mark marks k ≡ Some mark
  pub id : slice_get g.ids k ≡ Some w.id
  pub missing : slice_get g.ids mark ≡ Some w.missing

-- the marked nodes below n, each once, by rising Id
pub record AreWaiters (g : DependencyGraph) (marks : List (Option ℕ)) (n : ℕ)
    (ws : List Waiting) : Type 0 where
  pub from : (w : Waiting) → Contains ws w → (k : ℕ) × (k < n) × IsWaiter g marks k w
  pub whole : (k : ℕ) (w : Waiting) → k < n → IsWaiter g marks k w → Contains ws w
  pub rising : IsRising (waiting_ids ws)
