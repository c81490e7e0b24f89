-- Maps with more dependencies.
use Rattle.std.specs.Prelude.{◌≡◌, List, Contains}
use Rattle.epx_types.specs.declared.id.Id.{Id}
use Rattle.epx_types.specs.Instances.{Instance}
use Rattle.epx_types.specs.Reaching.{DependsOn}

-- each instance of n has the Id and the command of one of m, and each dependency of m is one of n
-- too; n may have more
pub record HasMoreDependencies (m n : List Instance) : Type 0 where
  pub same : (e : Instance) → Contains n e
      → (d : Instance) × Contains m d × (d.id ≡ e.id) × (d.ops ≡ e.ops)
  pub kept : (x y : Id) → DependsOn m x y → DependsOn n x y
