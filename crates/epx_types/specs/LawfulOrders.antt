-- The orders that the protocol allows.
use Rattle.std.specs.Prelude.{◌≡◌, ◌≢◌, ℕ, ◌<◌, true, List, Contains, AllPairs, Some, slice_get}
use Rattle.std.specs.Ordering.{nat_cmp, ordering_then, is_lt}
use Rattle.epx_types.specs.declared.id.Id.{Id}
use Rattle.epx_types.specs.Ids.{id_cmp}
use Rattle.epx_types.specs.Instances.{Instance}
use Rattle.epx_types.specs.Readiness.{IsReady}
use Rattle.epx_types.specs.Reaching.{Reaches}
use Rattle.epx_types.specs.Components.{InOneComponent}

-- x occurs in the list at a position before one of y
abbrev pub Before : {X : Type 0} → List X → X → X → Type 0
Before xs x y = (i j : ℕ) × (i < j) × (slice_get xs i ≡ Some x) × (slice_get xs j ≡ Some y)

-- x and y are committed, and x has the lower sequence number, or the same one and the lower Id
pub record SequenceBefore (m : List Instance) (x y : Id) : Type 0 where
  pub first : Instance
  pub second : Instance
  pub first_in : Contains m first
  pub first_is : first.id ≡ x
  pub second_in : Contains m second
  pub second_is : second.id ≡ y
  pub lower : is_lt (ordering_then (nat_cmp first.seq second.seq) (id_cmp x y)) ≡ true

-- Each instance of the set occurs once, and nothing else does. An instance comes after all that it
-- reaches outside its component. Members of one component come by sequence number, then by Id
pub record IsLawfulFor (m : List Instance) (Member : Id → Type 0) (ids : List Id) : Type 0 where
  pub once : AllPairs (λ x y. x ≢ y) ids
  pub only : (x : Id) → Contains ids x → Member x
  pub whole : (x : Id) → Member x → Contains ids x
  pub after_reached : (x y : Id) → Contains ids x → Reaches m x y → ¬ Reaches m y x
      → Before ids y x
  pub by_sequence : (x y : Id) → Contains ids x → Contains ids y → InOneComponent m x y
      → SequenceBefore m x y → Before ids x y

-- a lawful order of the map: the list has exactly its ready instances, in an order that the
-- protocol allows, as `IsLawfulFor` says
abbrev pub IsLawful : List Instance → List Id → Type 0
IsLawful m ids = IsLawfulFor m (IsReady m) ids
