-- The faults of a list of instances that is not a prefix of a lawful order. Strangers,
-- repeats and overtaken instances are those of `OrderFaults`.
use Rattle.std.specs.Prelude.{◌≡◌, ◌≢◌, ◌⊎◌, ℕ, ◌<◌, List, length, slice_get, Some, Contains}
use Rattle.epx_types.specs.declared.id.Id.{Id}
use Rattle.epx_types.specs.Instances.{Instance}
use Rattle.epx_types.specs.Components.{InOneComponent}
use Rattle.epx_types.specs.LawfulOrders.{SequenceBefore}
use Rattle.epx_types.specs.Reaching.{Reaches}
use Rattle.epx_ranking.specs.OrderFaults.{IsStrangerAt, IsRepeatAt, IsOvertakenAt, ReadyOnce}
use Rattle.epx_ranking.specs.declared.order_fault.OrderFault.{OrderFault}
use Rattle.epx_ranking.specs.declared.order_fault.OrderFault.TheVariants.{Memory, Stranger, Repeat}
use Rattle.epx_ranking.specs.declared.order_fault.OrderFault.TheVariants.{Missing, Early, Sequence}

-- the instance at a place reaches another one, outside its component, that is at no earlier place
pub record IsTooEarlyAt (m : List Instance) (ids : List Id) (place : ℕ) : Type 0 where
  pub id : Id
  pub reached : Id
  pub here : slice_get ids place ≡ Some id
  pub reaches : Reaches m id reached
  pub outside : ¬ Reaches m reached id
  pub not_before : (earlier : ℕ) → earlier < place → slice_get ids earlier ≢ Some reached

-- a member of the same component that comes before the instance at a place by sequence number and
-- then Id is not in the list
pub record IsAfterGapAt (m : List Instance) (ids : List Id) (place : ℕ) : Type 0 where
  pub id : Id
  pub left_out : Id
  pub here : slice_get ids place ≡ Some id
  pub one_component : InOneComponent m left_out id
  pub by_sequence : SequenceBefore m left_out id
  pub absent : ¬ Contains ids left_out

-- an earlier place has a member of the same component that comes later by sequence number and then
-- Id, or one that comes earlier is not in the list
abbrev pub IsOutOfSequenceAt : List Instance → List Id → ℕ → Type 0
IsOutOfSequenceAt m ids place = IsOvertakenAt m ids place ⊎ IsAfterGapAt m ids place

-- below place n, no instance is too early and none is out of sequence
abbrev pub BeginsInOrder : List Instance → List Id → ℕ → Type 0
BeginsInOrder m ids n = (i : ℕ) → i < n
    → ¬ IsTooEarlyAt m ids i × ¬ IsOutOfSequenceAt m ids i

-- `Memory`, or the first of: the least place whose instance is not ready or is listed earlier; the
-- least place that reaches one outside its component that is at no earlier place, or whose
-- component is out of sequence there (`IsOutOfSequenceAt`)
abbrev pub IsPrefixFault : List Instance → List Id → OrderFault → Type 0
IsPrefixFault m ids Memory = Unit {0}
IsPrefixFault m ids (Stranger place) = IsStrangerAt m ids place × ReadyOnce m ids place
IsPrefixFault m ids (Repeat place) = IsRepeatAt m ids place × ReadyOnce m ids place
IsPrefixFault m ids (Missing x) = ⊥
IsPrefixFault m ids (Early place) = ReadyOnce m ids (length ids) × IsTooEarlyAt m ids place
    × BeginsInOrder m ids place
IsPrefixFault m ids (Sequence place) = ReadyOnce m ids (length ids)
    × IsOutOfSequenceAt m ids place × ¬ IsTooEarlyAt m ids place × BeginsInOrder m ids place
