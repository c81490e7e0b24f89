-- The depth of an instance: its longest descent through components.
use Rattle.std.specs.Prelude.{◌≡◌, ℕ, ◌≤◌, ◌<◌, List, [], ◌∷◌, length}
use Rattle.epx_types.specs.declared.id.Id.{Id}
use Rattle.epx_types.specs.Instances.{Instance}
use Rattle.epx_types.specs.Reaching.{Reaches}

-- a chain from x in which each Id reaches the next and is not reached by it
abbrev pub Descends : List Instance → Id → List Id → Type 0
Descends m x [] = Unit {0}
Descends m x (y ∷ ys) = Reaches m x y × ¬ Reaches m y x × Descends m y ys

-- `depth` is the greatest number of steps in a chain from x in which each Id reaches the next and
-- is not reached by it
pub record IsDepth (m : List Instance) (x : Id) (depth : ℕ) : Type 0 where
  pub descent : (ys : List Id) × Descends m x ys × (length ys ≡ depth)
  pub longest : (ys : List Id) → Descends m x ys → length ys ≤ depth

-- f is lower at y than at x if x reaches y and y does not reach x
abbrev pub FallsOneWay : List Instance → (Id → ℕ) → Type 0
FallsOneWay m f = (x y : Id) → Reaches m x y → ¬ Reaches m y x → f y < f x
