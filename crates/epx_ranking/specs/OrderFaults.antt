-- The faults of a list of instances that is not a lawful order. A place is a position in the list.
use Rattle.std.specs.Prelude.{◌≡◌, ◌≢◌, ℕ, ◌<◌, List, length, slice_get, Some, Contains}
use Rattle.epx_types.specs.declared.id.Id.{Id}
use Rattle.epx_types.specs.Ids.{UpTo}
use Rattle.epx_types.specs.Instances.{Instance}
use Rattle.epx_types.specs.Components.{InOneComponent}
use Rattle.epx_types.specs.LawfulOrders.{SequenceBefore}
use Rattle.epx_types.specs.Reaching.{Reaches}
use Rattle.epx_types.specs.Readiness.{IsReady}
use Rattle.epx_ranking.specs.declared.order_fault.OrderFault.{OrderFault}
use Rattle.epx_ranking.specs.declared.order_fault.OrderFault.TheVariants.{Memory, Stranger, Repeat}
use Rattle.epx_ranking.specs.declared.order_fault.OrderFault.TheVariants.{Missing, Early, Sequence}

-- the instance at a place is not ready
pub record IsStrangerAt (m : List Instance) (ids : List Id) (place : ℕ) : Type 0 where
  pub id : Id
  pub here : slice_get ids place ≡ Some id
  pub waits : ¬ IsReady m id

-- the instance at a place is ready, and is at an earlier place too
pub record IsRepeatAt (m : List Instance) (ids : List Id) (place : ℕ) : Type 0 where
  pub id : Id
  pub here : slice_get ids place ≡ Some id
  pub ready : IsReady m id
  pub earlier : ℕ
  pub is_earlier : earlier < place
  pub there : slice_get ids earlier ≡ Some id

-- the instance at a place reaches another one, outside its component, that is at a later place
pub record IsEarlyAt (m : List Instance) (ids : List Id) (place : ℕ) : Type 0 where
  pub id : Id
  pub reached : Id
  pub here : slice_get ids place ≡ Some id
  pub reaches : Reaches m id reached
  pub outside : ¬ Reaches m reached id
  pub later : ℕ
  pub is_later : place < later
  pub there : slice_get ids later ≡ Some reached

-- an earlier place has a member of the same component that comes after the instance at this place
-- by sequence number and then Id
pub record IsOvertakenAt (m : List Instance) (ids : List Id) (place : ℕ) : Type 0 where
  pub id : Id
  pub follower : Id
  pub here : slice_get ids place ≡ Some id
  pub one_component : InOneComponent m id follower
  pub by_sequence : SequenceBefore m id follower
  pub earlier : ℕ
  pub is_earlier : earlier < place
  pub there : slice_get ids earlier ≡ Some follower

-- below place n, each instance is ready and is at no earlier place
abbrev pub ReadyOnce : List Instance → List Id → ℕ → Type 0
ReadyOnce m ids n = (i : ℕ) (x : Id) → i < n → slice_get ids i ≡ Some x
    → IsReady m x × ((j : ℕ) → j < i → slice_get ids j ≢ Some x)

-- each ready instance is in the list
abbrev pub HasAllReady : List Instance → List Id → Type 0
HasAllReady m ids = (x : Id) → IsReady m x → Contains ids x

-- below place n, no instance is early and none is overtaken
abbrev pub InOrder : List Instance → List Id → ℕ → Type 0
InOrder m ids n = (i : ℕ) → i < n → ¬ IsEarlyAt m ids i × ¬ IsOvertakenAt m ids i

-- the list has each ready instance once, and no other instance
abbrev pub IsListOfReady : List Instance → List Id → Type 0
IsListOfReady m ids = ReadyOnce m ids (length ids) × HasAllReady m ids

-- `Memory`, or the first of: the least place whose instance is not ready or is listed earlier; the
-- least ready instance that is not listed; the least place that reaches a later one outside its
-- component, or whose instance is after one of its component that comes later by sequence
abbrev pub IsOrderFault : List Instance → List Id → OrderFault → Type 0
IsOrderFault m ids Memory = Unit {0}
IsOrderFault m ids (Stranger place) = IsStrangerAt m ids place × ReadyOnce m ids place
IsOrderFault m ids (Repeat place) = IsRepeatAt m ids place × ReadyOnce m ids place
IsOrderFault m ids (Missing x) = ReadyOnce m ids (length ids) × IsReady m x × ¬ Contains ids x
    × ((y : Id) → IsReady m y → ¬ Contains ids y → UpTo x y)
IsOrderFault m ids (Early place) = IsListOfReady m ids × IsEarlyAt m ids place
    × InOrder m ids place
IsOrderFault m ids (Sequence place) = IsListOfReady m ids × IsOvertakenAt m ids place
    × ¬ IsEarlyAt m ids place × InOrder m ids place
