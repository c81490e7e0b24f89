-- Ready instances, and waiting ones with the instance that each waits for.
use Rattle.std.specs.Prelude.{List, Contains}
use Rattle.epx_types.specs.declared.id.Id.{Id}
use Rattle.epx_types.specs.Ids.{UpTo}
use Rattle.epx_types.specs.Instances.{Instance}
use Rattle.epx_types.specs.CommittedMap.{IsCommitted}
use Rattle.epx_types.specs.Reaching.{Reaches}

-- x and all that it reaches are committed
pub record IsReady (m : List Instance) (x : Id) : Type 0 where
  pub committed : IsCommitted m x
  pub complete : (y : Id) → Reaches m x y → IsCommitted m y

-- x is committed, and y is the least instance that x reaches and that is not committed
pub record WaitsFor (m : List Instance) (x y : Id) : Type 0 where
  pub committed : IsCommitted m x
  pub reached : Reaches m x y
  pub missing : ¬ IsCommitted m y
  pub least : (z : Id) → Reaches m x z → ¬ IsCommitted m z → UpTo y z

-- each dependency of each instance of the map is committed
abbrev pub NoneMissing : List Instance → Type 0
NoneMissing m = (e : Instance) → Contains m e → (y : Id) → Contains e.deps y → IsCommitted m y
