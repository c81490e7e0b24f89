-- Which missing instances block an instance.
use Rattle.std.specs.Prelude.{◌≡◌, ◌≢◌, List}
use Rattle.epx_types.specs.declared.id.Id.{Id}
use Rattle.epx_types.specs.Instances.{Instance}
use Rattle.epx_types.specs.CommittedMap.{IsCommitted}
use Rattle.epx_types.specs.Reaching.{Reaches}

-- y is not committed, and x is committed and reaches y
pub record Blocks (m : List Instance) (y x : Id) : Type 0 where
  pub committed : IsCommitted m x
  pub reached : Reaches m x y
  pub missing : ¬ IsCommitted m y

-- y blocks x, and nothing else does
pub record BlocksAlone (m : List Instance) (y x : Id) : Type 0 where
  pub blocks : Blocks m y x
  pub only : (z : Id) → Blocks m z x → z ≡ y

-- two different instances block x
abbrev pub SeveralBlock : List Instance → Id → Type 0
SeveralBlock m x = (y z : Id) × Blocks m y x × Blocks m z x × (y ≢ z)
