-- The instances that wait, each with the missing instance that it waits for.
use Rattle.std.specs.Prelude.{List, map, Contains}
use Rattle.epx_types.specs.declared.id.Id.{Id}
use Rattle.epx_types.specs.Ids.{IsRising}
use Rattle.epx_types.specs.Instances.{Instance}
use Rattle.epx_types.specs.Readiness.{WaitsFor}

-- an instance that waits, and the missing instance that it waits for
pub record Waiting : Type 0 where
  pub id : Id
  pub missing : Id

-- the Ids of the instances that wait, in the order of the list
abbrev pub waiting_ids : List Waiting → List Id
waiting_ids ws = map (λ w. w.id) ws

-- each waiting instance of the map once, with the instance that it waits for, by rising Id
pub record IsWaitingList (m : List Instance) (ws : List Waiting) : Type 0 where
  pub waits : (w : Waiting) → Contains ws w → WaitsFor m w.id w.missing
  pub whole : (x y : Id) → WaitsFor m x y → Contains ws (record { id = x; missing = y })
  pub rising : IsRising (waiting_ids ws)
