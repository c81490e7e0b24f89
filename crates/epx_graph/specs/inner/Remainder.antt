-- What is left of a committed map, while its graph is built.
use Rattle.std.specs.Prelude.{◌≡◌, ℕ, ◌<◌, List, length, take, Contains, Option, Some, None}
use Rattle.std.specs.Prelude.{slice_get, slice_index_or}
use Rattle.epx_types.specs.declared.id.Id.{Id}
use Rattle.epx_types.specs.Instances.{Instance}
use Rattle.epx_types.specs.CommittedMap.{position_of}
use Rattle.epx_types.specs.Done.{without_deps, remaining}
use Rattle.epx_graph.specs.declared.remainder.IdState.{IdState}
use Rattle.epx_graph.specs.declared.remainder.IdState.TheVariants as found

-- a map, and the done Ids
pub record RemainderView : Type 0 where
  pub whole : List Instance
  pub done : List Id

-- what is left of the map: the instances that are not done, without their dependencies on done
-- ones
abbrev pub rest_of : RemainderView → List Instance
rest_of r = remaining r.done r.whole

-- what an Id is: left, at its position among those left; done; or missing
abbrev pub IsIdStateOf : RemainderView → Id → IdState → Type 0
IsIdStateOf r x (found.Left k) = (¬ Contains r.done x) × (position_of (rest_of r) x ≡ Some k)
IsIdStateOf r x found.Done = Contains r.done x
IsIdStateOf r x found.Missing = (¬ Contains r.done x) × (position_of (rest_of r) x ≡ None)

-- the instance at position p of the map is at position k of what is left
abbrev pub IsAtPosition : RemainderView → ℕ → ℕ → Type 0
IsAtPosition r p k = (e : Instance) × (slice_get r.whole p ≡ Some e)
    × (slice_get (rest_of r) k ≡ Some (without_deps r.done e))

-- the position of an instance of the map among those that are left, if it is left
abbrev pub IsPositionLeft : RemainderView → Instance → Option ℕ → Type 0
IsPositionLeft r e None = Contains r.done e.id
IsPositionLeft r e (Some k) = slice_get (rest_of r) k ≡ Some (without_deps r.done e)

-- for the first n instances of the map: the positions of those that are left, and the position of
-- each among them
pub record ArePositionTables (r : RemainderView) (positions : List ℕ)
    (positions_left : List (Option ℕ)) (n : ℕ) : Type 0 where
  pub many : length positions ≡ length (remaining r.done (take n r.whole))
  pub at_positions : (k : ℕ) → k < length positions
      → IsAtPosition r (slice_index_or positions k 0) k
  pub all : length positions_left ≡ n
  pub all_positions_left : (p : ℕ) (e : Instance) → p < n → slice_get r.whole p ≡ Some e
      → IsPositionLeft r e (slice_index_or positions_left p None)
