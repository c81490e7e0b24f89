-- What a call need not look at: pending instances that cannot be ready yet.
use Rattle.std.specs.Prelude.{◌≡◌, ◌⊎◌, ◌↔◌, ◌+◌, ◌≤◌, List, [], length, Contains}
use Rattle.std.specs.Prelude.{Option, None, Some}
use Rattle.epx_types.specs.declared.id.Id.{Id}
use Rattle.epx_types.specs.CommittedMap.{ids_of, IsCommitted}
use Rattle.epx_types.specs.Done.{remaining}
use Rattle.epx_types.specs.Ids.{IsRising}
use Rattle.epx_types.specs.Instances.{Instance}
use Rattle.epx_types.specs.Limits.{max_instances}
use Rattle.epx_types.specs.Reaching.{Reaches}
use Rattle.epx_types.specs.Readiness.{IsReady}
use Rattle.epx_types.specs.WaitingLists.{Waiting, waiting_ids}
use Rattle.epx_executor.specs.declared.choose.Choice.{Choice}
use Rattle.epx_executor.specs.inner.Filings.{Filings, IsFiled, IsBlockedBy}

-- the map has the pending instances, and those that came and are not done
pub record IsUnion (done : List Id) (pending came m : List Instance) : Type 0 where
  pub rising : IsRising (ids_of m)
  pub same : (e : Instance) → Contains m e
      ↔ (Contains pending e ⊎ (Contains came e × (¬ Contains done e.id)))

-- the instances of the map are filed, each under one that it reaches
pub record AreFiledIn (m : List Instance) (filings : Filings) : Type 0 where
  pub whole : (x : Id) → IsCommitted m x ↔ IsFiled filings x
  pub reach : (x y : Id) → Contains filings (x, y) → Reaches m x y

-- a dependency d of an instance is z or waits behind it, and z is not done, does not wait and has
-- not come
pub record IsNeededBy (done : List Id) (pending : List Instance) (came : List Id)
    (filings : Filings) (d z : Id) : Type 0 where
  pub left : ¬ Contains done d
  pub behind : (d ≡ z) ⊎ IsBlockedBy filings d z
  pub not_pending : ¬ Contains (ids_of pending) z
  pub not_came : ¬ Contains came z
  pub not_done : ¬ Contains done z

-- the instance needs z, which is missing
abbrev pub NeedsMissing : List Id → List Instance → List Id → Filings → Instance → Id → Type 0
NeedsMissing done pending came filings e z =
    (d : Id) × Contains e.deps d × IsNeededBy done pending came filings d z

-- the instance is done, or an equal one waits, or none of its Id
abbrev pub AgreesWith : List Id → List Instance → Instance → Type 0
AgreesWith done pending e = ¬ Contains done e.id → (p : Instance) → Contains pending p
    → p.id ≡ e.id → p ≡ e

-- of an instance that came: all behind it is looked at, nothing is behind it, or it is blocked
-- itself
abbrev pub IsSortedOut : List Id → Filings → List Id → List (Id × Id) → Instance → Type 0
IsSortedOut done filings roots blocked e = ¬ Contains done e.id → Contains roots e.id
    ⊎ (((x : Id) → ¬ Contains filings (x, e.id)) ⊎ ((z : Id) × Contains blocked (e.id, z)))

-- each of these came, is not done, and needs the instance beside it, which is missing
abbrev pub AreBlocked : List Id → List Instance → List Instance → List Id → Filings
    → List (Id × Id) → Type 0
AreBlocked done pending came ids filings blocked = (x z : Id) → Contains blocked (x, z)
    → (e : Instance) × Contains came e × (e.id ≡ x) × (¬ Contains done x)
    × NeedsMissing done pending ids filings e z

-- x is an instance of the map and reaches z, which is not ready
pub record IsBlockedIn (m : List Instance) (x z : Id) : Type 0 where
  pub committed : IsCommitted m x
  pub reached : Reaches m x z
  pub not_ready : ¬ IsReady m z

-- Of the pending instances only those of `ids` can be ready now. Those of `blocked` came, and are
-- not ready
pub record IsChoice (done : List Id) (pending came : List Instance) (filings : Filings)
    (ids : List Id) (blocked : List (Id × Id)) : Type 0 where
  -- what waits and what came are no more than an executor holds
  pub few : length pending + length came ≤ max_instances
  -- what came agrees with what waits
  pub alike : (e : Instance) → Contains came e → AgreesWith done pending e
  -- a pending instance that is ready now is in `ids`
  pub whole : (m : List Instance) → IsUnion done pending came m → (x : Id)
      → Contains (ids_of pending) x → IsReady (remaining done m) x → Contains ids x
  -- an instance of `blocked` reaches the one beside it, which is not ready
  pub need_missing : (m : List Instance) → IsUnion done pending came m → (x z : Id)
      → Contains blocked (x, z) → IsBlockedIn (remaining done m) x z
  -- what is not in `ids` stays filed, and under an instance that is not ready
  pub left : (m : List Instance) → IsUnion done pending came m → (x y : Id)
      → Contains filings (x, y) → ¬ Contains ids x → ¬ IsReady (remaining done m) y

-- the pending instances at which a call looks: all, or at least those of a choice
abbrev pub IsPart : Option Choice → List Instance → List Instance → Type 0
IsPart None pending part = part ≡ pending
IsPart (Some c) pending part = ((e : Instance) → Contains part e → Contains pending e)
    × ((e : Instance) → Contains pending e → Contains c.ids.items e.id → Contains part e)

-- a call does not look at the pending instance
abbrev pub IsPassedOver : Option Choice → List Instance → Instance → Type 0
IsPassedOver None pending e = ⊥
IsPassedOver (Some c) pending e = Contains pending e × (¬ Contains c.ids.items e.id)

-- each is filed as an instance of the map, under one that it reaches
abbrev pub AreWithin : List Instance → Filings → Type 0
AreWithin m filings = (x y : Id) → Contains filings (x, y) → IsCommitted m x × Reaches m x y

-- What a call keeps filed, the instances of `blocked` and those that wait are instances of the
-- map, and reach those under which they can be filed. They are all its instances
pub record CanRefile (m : List Instance) (before : Filings) (ids : List Id)
    (blocked : List (Id × Id)) (waiters : List Waiting) : Type 0 where
  pub kept : (x y : Id) → Contains before (x, y) → ¬ Contains ids x
      → IsCommitted m x × Reaches m x y
  pub need_missing : AreWithin m blocked
  pub waiting : (w : Waiting) → Contains waiters w → IsCommitted m w.id × Reaches m w.id w.missing
  pub whole : (x : Id) → IsCommitted m x
      → (IsFiled before x × (¬ Contains ids x)) ⊎ Contains (waiting_ids waiters) x

-- the filings after a call that looked at a choice, or at all pending instances: they are those of
-- each map that can be refiled
abbrev pub IsRefiled : Option Filings → Option Choice → List Waiting → Filings → Type 0
IsRefiled None choice waiters filings =
    (m : List Instance) → CanRefile m [] [] [] waiters → AreFiledIn m filings
IsRefiled (Some before) None waiters filings =
    (m : List Instance) → CanRefile m [] [] [] waiters → AreFiledIn m filings
IsRefiled (Some before) (Some c) waiters filings = (m : List Instance)
    → CanRefile m before c.ids.items c.blocked.items waiters → AreFiledIn m filings
