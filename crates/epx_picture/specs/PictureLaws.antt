-- Laws of pictures.
use Rattle.std.specs.Prelude.{◌≡◌, ◌↔◌, ◌⊎◌, ℕ, ◌+◌, ◌≤◌, List}
use Rattle.epx_types.specs.declared.id.Id.{Id}
use Rattle.epx_types.specs.Ids.{IsRising}
use Rattle.epx_types.specs.CommittedMap.{ids_of, IsCommitted}
use Rattle.epx_types.specs.Instances.{Instance}
use Rattle.epx_graph.specs.GraphOf.{IsMissing}
use Rattle.epx_picture.specs.Neighbourhoods.{IsWithinSteps}
use Rattle.epx_picture.specs.Pictures.{IsPicture}
use Rattle.epx_picture.specs.PicturesAround.{IsPictureAround}

-- a committed map has a picture
abbrev pub PictureExists : Type 0
PictureExists = (m : List Instance) → IsRising (ids_of m) → (text : List ℕ) × IsPicture m text

-- a committed map has at most one picture
abbrev pub PictureIsUnique : Type 0
PictureIsUnique = (m : List Instance) (text other : List ℕ) → IsPicture m text → IsPicture m other
    → text ≡ other

-- a committed map has a picture of n steps around each Id
abbrev pub PictureAroundExists : Type 0
PictureAroundExists = (m : List Instance) (x : Id) (n : ℕ) → IsRising (ids_of m)
    → (text : List ℕ) × IsPictureAround m x n text

-- in a committed map there is at most one picture of n steps around an instance
abbrev pub PictureAroundIsUnique : Type 0
PictureAroundIsUnique = (m : List Instance) (x : Id) (n : ℕ) (text other : List ℕ)
    → IsPictureAround m x n text → IsPictureAround m x n other → text ≡ other

-- if all committed and missing instances are within n steps of x, the picture around x is that of
-- the whole map
abbrev pub PictureAroundIsWhole : Type 0
PictureAroundIsWhole = (m : List Instance) (x : Id) (n : ℕ) (text : List ℕ)
    → ((y : Id) → IsCommitted m y ⊎ IsMissing m y → IsWithinSteps m n x y)
    → IsPictureAround m x n text ↔ IsPicture m text

-- if all that is within n + 1 steps of x is within n steps, the pictures around x of n steps and of
-- any more are the same
abbrev pub FurtherStepsAddNothing : Type 0
FurtherStepsAddNothing = (m : List Instance) (x : Id) (n l : ℕ) (text : List ℕ)
    → ((y : Id) → IsWithinSteps m (n + 1) x y → IsWithinSteps m n x y) → n ≤ l
    → IsPictureAround m x l text ↔ IsPictureAround m x n text
