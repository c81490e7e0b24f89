-- Laws of reaching, of components and their leaders and depths, and of readiness.
use Rattle.std.specs.Prelude.{◌≡◌, ◌⊎◌, ◌↔◌, ℕ, ◌<◌, ◌≤◌, Bool, true, List, Contains}
use Rattle.epx_types.specs.declared.id.Id.{Id}
use Rattle.epx_types.specs.Instances.{Instance}
use Rattle.epx_types.specs.Ids.{IsRising}
use Rattle.epx_types.specs.CommittedMap.{ids_of, IsCommitted}
use Rattle.epx_types.specs.Reaching.{DependsOn, Reaches}
use Rattle.epx_types.specs.Readiness.{IsReady, WaitsFor, NoneMissing}
use Rattle.epx_types.specs.WaitingLists.{Waiting, IsWaitingList}
use Rattle.epx_types.specs.Components.{InOneComponent, IsLeader}
use Rattle.epx_types.specs.Depth.{IsDepth, FallsOneWay}
use Rattle.epx_laws.specs.AtMostOne.{AtMostOne}

-- only committed instances depend on others, each exactly on the Ids in its list of dependencies
pub record DependenciesAreListed : Type 0 where
  pub committed : (m : List Instance) (x y : Id) → DependsOn m x y → IsCommitted m x
  pub listed : (m : List Instance) → IsRising (ids_of m) → (e : Instance) → Contains m e → (y : Id)
      → DependsOn m e.id y ↔ Contains e.deps y

-- each instance reaches itself, also one that is not committed
abbrev pub ReachingIsReflexive : Type 0
ReachingIsReflexive = (m : List Instance) (x : Id) → Reaches m x x

-- what is reached from an instance that x reaches, x reaches too
abbrev pub ReachingIsTransitive : Type 0
ReachingIsTransitive = (m : List Instance) (x y z : Id) → Reaches m x y → Reaches m y z
    → Reaches m x z

-- a committed instance reaches each of its dependencies
abbrev pub DependenciesAreReached : Type 0
DependenciesAreReached = (m : List Instance) (x y : Id) → DependsOn m x y → Reaches m x y

-- if an instance passes the test, each of its dependencies passes it
abbrev pub PassesOn : List Instance → (Id → Bool) → Type 0
PassesOn m p = (x y : Id) → DependsOn m x y → p x ≡ true → p y ≡ true

-- if the dependencies of instances that pass a test pass it too, so does all that is reached from
-- an instance that passes it
abbrev pub ReachingIsLeast : Type 0
ReachingIsLeast = (m : List Instance) (p : Id → Bool) → PassesOn m p → (x y : Id) → Reaches m x y
    → p x ≡ true → p y ≡ true

-- being in one component is reflexive, symmetric and transitive
pub record OneComponentIsEquivalence : Type 0 where
  pub reflexive : (m : List Instance) (x : Id) → InOneComponent m x x
  pub symmetric : (m : List Instance) (x y : Id) → InOneComponent m x y → InOneComponent m y x
  pub transitive : (m : List Instance) (x y z : Id) → InOneComponent m x y → InOneComponent m y z
      → InOneComponent m x z

-- members of one component have the same leader and the same depth, and are ready together
pub record MembersAreAlike : Type 0 where
  pub leader : (m : List Instance) (x y l : Id) → InOneComponent m x y → IsLeader m x l
      → IsLeader m y l
  pub depth : (m : List Instance) (x y : Id) (k : ℕ) → InOneComponent m x y → IsDepth m x k
      → IsDepth m y k
  pub ready : (m : List Instance) (x y : Id) → InOneComponent m x y → IsReady m x → IsReady m y

-- each instance has a leader
abbrev pub LeaderExists : Type 0
LeaderExists = (m : List Instance) (x : Id) → (leader : Id) × IsLeader m x leader

-- an instance has at most one leader
abbrev pub LeaderIsUnique : Type 0
LeaderIsUnique = (m : List Instance) (x : Id) → AtMostOne (IsLeader m x)

-- each instance has a depth
abbrev pub DepthExists : Type 0
DepthExists = (m : List Instance) (x : Id) → (depth : ℕ) × IsDepth m x depth

-- an instance has at most one depth
abbrev pub DepthIsUnique : Type 0
DepthIsUnique = (m : List Instance) (x : Id) → AtMostOne (IsDepth m x)

-- if x reaches y and y does not reach x, the depth of y is less
abbrev pub DepthFalls : Type 0
DepthFalls = (m : List Instance) (x y : Id) (j k : ℕ) → Reaches m x y → ¬ Reaches m y x
    → IsDepth m x j → IsDepth m y k → k < j

-- if each instance has a number, which is less at y than at x wherever x reaches y and y does not
-- reach x, the depth of an instance is at most its number
abbrev pub DepthIsLeast : Type 0
DepthIsLeast = (m : List Instance) (f : Id → ℕ) → FallsOneWay m f → (x : Id) (k : ℕ)
    → IsDepth m x k → k ≤ f x

-- an instance waits for at most one other
abbrev pub WaitsForOne : Type 0
WaitsForOne = (m : List Instance) (x : Id) → AtMostOne (WaitsFor m x)

-- a committed map has a waiting list
abbrev pub WaitingListExists : Type 0
WaitingListExists = (m : List Instance) → IsRising (ids_of m)
    → (ws : List Waiting) × IsWaitingList m ws

-- a map has at most one waiting list
abbrev pub WaitingListIsUnique : Type 0
WaitingListIsUnique = (m : List Instance) → AtMostOne (IsWaitingList m)

-- a committed instance is ready, or waits for another
abbrev pub ReadyOrWaits : Type 0
ReadyOrWaits = (m : List Instance) (x : Id) → IsCommitted m x
    → IsReady m x ⊎ ((y : Id) × WaitsFor m x y)

-- a committed instance is ready exactly if it waits for nothing
abbrev pub ReadyWaitsForNothing : Type 0
ReadyWaitsForNothing = (m : List Instance) (x : Id) → IsCommitted m x
    → (IsReady m x ↔ ((y : Id) → ¬ WaitsFor m x y))

-- if each dependency is committed, each committed instance is ready
abbrev pub NoneMissingAllReady : Type 0
NoneMissingAllReady = (m : List Instance) → NoneMissing m → (x : Id) → IsCommitted m x
    → IsReady m x

-- an instance waits exactly if it is committed and reaches one that is not
abbrev pub WaitsWhereMissing : Type 0
WaitsWhereMissing = (m : List Instance) (x : Id) → ((y : Id) × WaitsFor m x y)
    ↔ IsCommitted m x × ((z : Id) × Reaches m x z × (¬ IsCommitted m z))
