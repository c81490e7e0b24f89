-- The missing instances, each with how many instances it blocks alone and how many depend on it.
use Rattle.std.specs.Prelude.{List, map, Contains}
use Rattle.epx_types.specs.Instances.{Instance}
use Rattle.epx_types.specs.Reaching.{DependsOn}
use Rattle.epx_graph.specs.GraphOf.{IsMissing}
use Rattle.epx_blockers.specs.declared.blocker.Blocker.{Blocker}
use Rattle.epx_blockers.specs.Blocking.{BlocksAlone}
use Rattle.epx_blockers.specs.IdCounts.{IsListOf, IsCount}

-- `alone` is how many instances this missing one blocks alone, and `named` is how many depend on it
pub record HasBlockerCounts (m : List Instance) (b : Blocker) : Type 0 where
  pub alone : IsCount (BlocksAlone m b.id) b.alone
  pub named : IsCount (λ x. DependsOn m x b.id) b.named

-- each missing instance once, by rising Id, with how many instances it blocks alone and how many
-- depend on it
pub record AreBlockers (m : List Instance) (bs : List Blocker) : Type 0 where
  pub missing : IsListOf (IsMissing m) (map (λ b. b.id) bs)
  pub each : (b : Blocker) → Contains bs b → HasBlockerCounts m b
