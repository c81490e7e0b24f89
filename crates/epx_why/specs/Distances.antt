-- The length of a shortest path of dependencies.
use Rattle.std.specs.Prelude.{◌≡◌, ℕ, ◌+◌, ◌≤◌, List, length}
use Rattle.epx_types.specs.declared.id.Id.{Id}
use Rattle.epx_types.specs.Instances.{Instance}
use Rattle.epx_types.specs.Reaching.{IsPath}

-- a path from x to y has this many steps, and none has fewer; each path has at least one step
pub record IsDistance (m : List Instance) (x y : Id) (steps : ℕ) : Type 0 where
  pub via : List Id
  pub path : IsPath m x via y
  pub long : length via + 1 ≡ steps
  pub fewest : (other : List Id) → IsPath m x other y → steps ≤ length other + 1
