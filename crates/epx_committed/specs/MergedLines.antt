-- What lines commit, or the fault for which they commit no map.
use Rattle.std.specs.Prelude.{◌≡◌, List}
use Rattle.epx_types.specs.declared.id.Id.{Id}
use Rattle.epx_types.specs.declared.place.Place.{Place}
use Rattle.epx_types.specs.declared.fault.Fault.{Fault}
use Rattle.epx_types.specs.declared.fault.Fault.TheVariants.{Memory, TooManyLogs, LogTooLong}
use Rattle.epx_types.specs.declared.fault.Fault.TheVariants.{BadLine, TooManyInstances, Disagree}
use Rattle.epx_types.specs.declared.fault.Fault.TheVariants.{Read, Write, BadBase}
use Rattle.epx_types.specs.Instances.{Instance}
use Rattle.epx_types.specs.PlacedLines.{Placed}
use Rattle.epx_types.specs.Agreement.{Agree, IsFirstDisagreement}
use Rattle.epx_types.specs.CommittedMap.{IsCommittedBy}
use Rattle.epx_committed.specs.InstanceCounts.{FewInstances, ManyInstances}

-- the lines have at most `max_instances` distinct Ids and agree, and m is the map that they commit
pub record IsMerged (lines : List Placed) (m : List Instance) : Type 0 where
  pub small : FewInstances lines
  pub agree : Agree lines
  pub committed : IsCommittedBy lines m

-- `id` is the least Id of which two lines differ; `first` is the earliest place of its lines, and
-- `second` the earliest place of a line that differs from the one at `first`
abbrev pub IsDisagreementAt : List Placed → Id → Place → Place → Type 0
IsDisagreementAt lines id first second = (p q : Placed) × IsFirstDisagreement lines id p q
    × (p.place ≡ first) × (q.place ≡ second)

-- the fault is `TooManyInstances`, and the lines have more than `max_instances` distinct Ids; or
-- they have not, and it is `Disagree` with their first disagreement; or it is `Memory`, which says
-- nothing about the lines
abbrev pub IsMergeFault : List Placed → Fault → Type 0
IsMergeFault lines Memory = Unit {0}
IsMergeFault lines TooManyInstances = ManyInstances lines
IsMergeFault lines (Disagree id first second) =
    FewInstances lines × IsDisagreementAt lines id first second
IsMergeFault lines TooManyLogs = ⊥
IsMergeFault lines (LogTooLong log) = ⊥
IsMergeFault lines (BadLine place why) = ⊥
IsMergeFault lines (Read log) = ⊥
IsMergeFault lines Write = ⊥
IsMergeFault lines (BadBase line) = ⊥
