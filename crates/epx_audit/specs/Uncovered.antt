-- Pairs of ready instances that conflict and are not related.
use Rattle.std.specs.Prelude.{◌≡◌, ◌⊎◌, Contains, List}
use Rattle.epx_types.specs.declared.id.Id.{Id}
use Rattle.epx_types.specs.Ids.{Below, UpTo}
use Rattle.epx_types.specs.Instances.{Instance}
use Rattle.epx_types.specs.Conflicts.{Conflict}
use Rattle.epx_types.specs.Reaching.{Reaches}
use Rattle.epx_types.specs.Readiness.{IsReady}

-- ready instances whose commands conflict, of which neither reaches the other
pub record IsUncovered (m : List Instance) (x y : Id) : Type 0 where
  pub ready : IsReady m x × IsReady m y
  pub conflict : (d e : Instance) × Contains m d × Contains m e × (d.id ≡ x) × (e.id ≡ y)
      × Conflict d.ops e.ops
  pub apart : (¬ Reaches m x y) × (¬ Reaches m y x)

-- the least uncovered pair: the lower Id first, compared by the first Id and then by the second
pub record IsLeastUncovered (m : List Instance) (x y : Id) : Type 0 where
  pub rises : Below x y
  pub uncovered : IsUncovered m x y
  pub least : (v w : Id) → Below v w → IsUncovered m v w → Below x v ⊎ ((x ≡ v) × UpTo y w)
