-- Logs that are accepted, and what they commit.
use Rattle.std.specs.Prelude.{ℕ, List}
use Rattle.epx_types.specs.Instances.{Instance}
use Rattle.epx_types.specs.Agreement.{Agree}
use Rattle.epx_types.specs.CommittedMap.{IsCommittedBy}
use Rattle.epx_merge.specs.LogLines.{placed_of}
use Rattle.epx_committed.specs.InstanceCounts.{FewInstances}
use Rattle.epx_merge.specs.Refusals.{AreWellFormed}

-- there are not too many logs or distinct instances, no log is too long, no line is bad, and all
-- lines of one instance agree; m is the map that the lines commit
pub record IsAccepted (logs : List (List ℕ)) (m : List Instance) : Type 0 where
  pub whole : AreWellFormed logs
  pub small : FewInstances (placed_of logs)
  pub agree : Agree (placed_of logs)
  pub committed : IsCommittedBy (placed_of logs) m
