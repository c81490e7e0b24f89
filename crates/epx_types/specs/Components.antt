-- Strongly connected components of the graph of dependencies, and their leaders.
use Rattle.std.specs.Prelude.{List}
use Rattle.epx_types.specs.declared.id.Id.{Id}
use Rattle.epx_types.specs.Ids.{UpTo}
use Rattle.epx_types.specs.Instances.{Instance}
use Rattle.epx_types.specs.Reaching.{Reaches}

-- x and y reach each other
abbrev pub InOneComponent : List Instance → Id → Id → Type 0
InOneComponent m x y = Reaches m x y × Reaches m y x

-- `leader` is the least Id in the component of x
pub record IsLeader (m : List Instance) (x leader : Id) : Type 0 where
  pub member : InOneComponent m x leader
  pub least : (y : Id) → InOneComponent m x y → UpTo leader y
