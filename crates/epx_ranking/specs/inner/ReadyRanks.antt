-- The ranks that the order is sorted by.
use Rattle.std.specs.Prelude.{◌≡◌, ◌≢◌, List, Contains, AllPairs}
use Rattle.epx_types.specs.declared.id.Id.{Id}
use Rattle.epx_types.specs.Instances.{Instance}
use Rattle.epx_types.specs.Readiness.{IsReady}
use Rattle.epx_types.specs.ExecutionOrder.{IsRanked}
use Rattle.epx_components.specs.Ranks.{ranked}
use Rattle.epx_components.specs.declared.rank.Rank.{Rank}

-- the ranks of the ready instances, each once
pub record AreReadyRanks (m : List Instance) (ranks : List Rank) : Type 0 where
  pub is_rank : (r : Rank) → Contains ranks r → IsRanked m (ranked r)
  pub whole : (x : Id) → IsReady m x → (r : Rank) × Contains ranks r × (r.id ≡ x)
  pub once : AllPairs (λ a b. a.id ≢ b.id) ranks
