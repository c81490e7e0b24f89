-- Laws of the remaining map, a committed map without its done instances.
use Rattle.std.specs.Prelude.{◌≡◌, ◌↔◌, [], List, Contains}
use Rattle.epx_types.specs.declared.id.Id.{Id}
use Rattle.epx_types.specs.Ids.{IsRising}
use Rattle.epx_types.specs.Instances.{Instance}
use Rattle.epx_types.specs.CommittedMap.{ids_of}
use Rattle.epx_types.specs.Reaching.{DependsOn}
use Rattle.epx_types.specs.Readiness.{IsReady, WaitsFor}
use Rattle.epx_types.specs.Done.{remaining}

-- if nothing is done, the whole map remains
abbrev pub NothingDoneLeavesAll : Type 0
NothingDoneLeavesAll = (m : List Instance) → remaining [] m ≡ m

-- the remaining map has exactly the Ids that are not done
abbrev pub RemainingIsNotDone : Type 0
RemainingIsNotDone = (done : List Id) (m : List Instance) (x : Id)
    → Contains (ids_of (remaining done m)) x ↔ Contains (ids_of m) x × (¬ Contains done x)

-- if the Ids of a map rise, those of the remaining map rise
abbrev pub RemainingIdsRise : Type 0
RemainingIdsRise = (done : List Id) (m : List Instance) → IsRising (ids_of m)
    → IsRising (ids_of (remaining done m))

-- in the remaining map x depends on y exactly if it does so in the whole map and neither of them is
-- done
abbrev pub RemainingDependencies : Type 0
RemainingDependencies = (done : List Id) (m : List Instance) (x y : Id)
    → DependsOn (remaining done m) x y ↔ DependsOn m x y × (¬ Contains done x)
    × (¬ Contains done y)

-- if all done instances are ready, an instance that is not done is ready in the remaining map
-- exactly if it is ready in the whole map
abbrev pub RemainingIsReadyAlike : Type 0
RemainingIsReadyAlike = (done : List Id) (m : List Instance)
    → ((x : Id) → Contains done x → IsReady m x) → (x : Id) → ¬ Contains done x
    → IsReady (remaining done m) x ↔ IsReady m x

-- if all done instances are ready, an instance that is not done waits in the remaining map exactly
-- for what it waits for in the whole map
abbrev pub RemainingWaitsAlike : Type 0
RemainingWaitsAlike = (done : List Id) (m : List Instance)
    → ((x : Id) → Contains done x → IsReady m x) → (x y : Id) → ¬ Contains done x
    → WaitsFor (remaining done m) x y ↔ WaitsFor m x y
