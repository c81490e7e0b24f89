-- The nodes of a range that have a distance.
use Rattle.std.specs.Prelude.{◌≡◌, ℕ, ◌<◌, ◌≤◌, List, map, Contains, Option, Some, slice_get}
use Rattle.epx_types.specs.Ids.{IsRising}
use Rattle.epx_graph.specs.Graphs.{DependencyGraph}
use Rattle.epx_why.specs.declared.need.Need.{Need}
use Rattle.epx_graph.specs.between.NodeSteps.{distance_at}

-- the instance and the distance of a node
pub record IsNeedAt (g : DependencyGraph) (distances : List (Option ℕ)) (k : ℕ) (n : Need) : Type
    0 where
  pub id : slice_get g.ids k ≡ Some n.id
  pub steps : distance_at distances k ≡ Some n.steps

-- the nodes from `start` to `end` with a distance, each once, by rising Id
pub record AreNeedsIn (g : DependencyGraph) (distances : List (Option ℕ)) (start end : ℕ)
    (needs : List Need) : Type 0 where
  pub from : (n : Need) → Contains needs n
      → (k : ℕ) × (start ≤ k) × (k < end) × IsNeedAt g distances k n
  pub whole : (k : ℕ) (n : Need) → start ≤ k → k < end → IsNeedAt g distances k n
      → Contains needs n
  pub rising : IsRising (map (λ n. n.id) needs)
