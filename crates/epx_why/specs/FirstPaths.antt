-- The first of the shortest paths of dependencies.
use Rattle.std.specs.Prelude.{◌≡◌, ◌⊎◌, ◌≤◌, List, [], ◌∷◌, ◌++◌, length}
use Rattle.epx_types.specs.declared.id.Id.{Id}
use Rattle.epx_types.specs.Ids.{Below}
use Rattle.epx_types.specs.Instances.{Instance}
use Rattle.epx_types.specs.Reaching.{IsPath}

-- the lists are the same, or the first one has the lower Id where they first differ, or ends there
abbrev pub ComesUpTo : List Id → List Id → Type 0
ComesUpTo [] ys = Unit {0}
ComesUpTo (x ∷ xs) [] = ⊥
ComesUpTo (x ∷ xs) (y ∷ ys) = Below x y ⊎ ((x ≡ y) × ComesUpTo xs ys)

-- the Ids of a path, its ends included
abbrev pub path_ids : Id → List Id → Id → List Id
path_ids x via y = x ∷ via ++ y ∷ []

-- a path with the fewest steps, and of these the one that comes first by its Ids
pub record IsFirstPath (m : List Instance) (x : Id) (via : List Id) (y : Id) : Type 0 where
  pub path : IsPath m x via y
  pub shortest : (other : List Id) → IsPath m x other y → length via ≤ length other
  pub first : (other : List Id) → IsPath m x other y → length other ≡ length via
      → ComesUpTo (path_ids x via y) (path_ids x other y)

-- no path of one dependency or more leads from x to y
abbrev pub HasNoPath : List Instance → Id → Id → Type 0
HasNoPath m x y = (via : List Id) → ¬ IsPath m x via y
