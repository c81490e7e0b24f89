-- Laws of execution orders.
use Rattle.std.specs.Prelude.{◌≡◌, ◌≢◌, ℕ, List, map, length, slice_get, Some, Contains, AllPairs}
use Rattle.epx_types.specs.declared.id.Id.{Id}
use Rattle.epx_types.specs.Ids.{IsRising}
use Rattle.epx_types.specs.Instances.{Instance}
use Rattle.epx_types.specs.CommittedMap.{ids_of, commands_in}
use Rattle.epx_types.specs.Contents.{Contents}
use Rattle.epx_types.specs.Execution.{execute}
use Rattle.epx_types.specs.Reaching.{Reaches}
use Rattle.epx_types.specs.Readiness.{IsReady}
use Rattle.epx_types.specs.Conflicts.{Conflict, IsCovered}
use Rattle.epx_types.specs.ExecutionOrder.{Ranked, IsExecutionOrder, component_count}
use Rattle.epx_types.specs.LawfulOrders.{Before, IsLawful}
use Rattle.epx_laws.specs.AtMostOne.{AtMostOne}

-- a committed map has an execution order
abbrev pub ExecutionOrderExists : Type 0
ExecutionOrderExists = (m : List Instance) → IsRising (ids_of m)
    → (order : List Ranked) × IsExecutionOrder m order

-- a map has at most one execution order
abbrev pub ExecutionOrderIsUnique : Type 0
ExecutionOrderIsUnique = (m : List Instance) → AtMostOne (IsExecutionOrder m)

-- an execution order is a lawful order, so the protocol allows it
abbrev pub ExecutionOrderIsLawful : Type 0
ExecutionOrderIsLawful = (m : List Instance) (order : List Ranked) → IsExecutionOrder m order
    → IsLawful m (map (λ r. r.id) order)

-- the leader of each instance of an execution order is in the order, and is its own leader; so
-- each component has one leader in it
abbrev pub LeadersAreInOrder : Type 0
LeadersAreInOrder = (m : List Instance) (order : List Ranked) → IsExecutionOrder m order
    → (r : Ranked) → Contains order r →
    (l : Ranked) × Contains order l × (l.id ≡ r.leader) × (l.leader ≡ l.id)

-- `leaders` has each leader of an instance of the order once, and no other Id; `component_count` of
-- the order is their number
pub record AreLeaders (order : List Ranked) (leaders : List Id) : Type 0 where
  pub once : AllPairs (λ x y. x ≢ y) leaders
  pub lead : (x : Id) → Contains leaders x → (r : Ranked) × Contains order r × (r.leader ≡ x)
  pub whole : (r : Ranked) → Contains order r → Contains leaders r.leader
  pub counted : length leaders ≡ component_count order

-- `component_count` of an execution order is the number of its distinct leaders
abbrev pub ComponentsAreCounted : Type 0
ComponentsAreCounted = (m : List Instance) (order : List Ranked) → IsExecutionOrder m order
    → (leaders : List Id) × AreLeaders order leaders

-- x is before y in this order if one of them reaches the other
pub record KeepsOrder (m : List Instance) (ids : List Id) (x y : Id) : Type 0 where
  pub there : Reaches m x y → Before ids x y
  pub back : Reaches m y x → Before ids x y

-- if one of two instances reaches the other, they come in the same order in all lawful orders
abbrev pub RelatedKeepOrder : Type 0
RelatedKeepOrder = (m : List Instance) (ids other : List Id) → IsLawful m ids → IsLawful m other
    → (x y : Id) → Before ids x y → KeepsOrder m other x y

-- lawful orders of one map have the same instances
abbrev pub LawfulOrdersHaveSameIds : Type 0
LawfulOrdersHaveSameIds = (m : List Instance) (ids other : List Id) → IsLawful m ids
    → IsLawful m other → (x : Id) → Contains ids x → Contains other x

-- d and e are different ready instances that conflict
pub record AreReadyAndConflict (m : List Instance) (d e : Instance) : Type 0 where
  pub first : Contains m d
  pub second : Contains m e
  pub apart : d.id ≢ e.id
  pub first_ready : IsReady m d.id
  pub second_ready : IsReady m e.id
  pub conflict : Conflict d.ops e.ops

-- two ready instances that conflict come in the same order in all lawful orders
abbrev pub ConflictsAreOrdered : List Instance → Type 0
ConflictsAreOrdered m = (ids other : List Id) → IsLawful m ids → IsLawful m other →
    (d e : Instance) → AreReadyAndConflict m d e → Before ids d.id e.id → Before other d.id e.id

-- in a covered map, two ready instances that conflict come in the same order in all lawful orders
abbrev pub ConflictsKeepOrder : Type 0
ConflictsKeepOrder = (m : List Instance) → IsCovered m → ConflictsAreOrdered m

-- a committed map is covered if two ready instances that conflict come in the same order in all
-- lawful orders
abbrev pub OrderedConflictsAreCovered : Type 0
OrderedConflictsAreCovered = (m : List Instance) → IsRising (ids_of m) → ConflictsAreOrdered m
    → IsCovered m

-- two lawful orders of a covered committed map, executed from the same contents, leave the same
-- contents, and each instance has the same reply in both
abbrev pub LawfulOrdersExecuteAlike : Type 0
LawfulOrdersExecuteAlike = (m : List Instance) → IsRising (ids_of m) → IsCovered m
    → (ids other : List Id) → IsLawful m ids → IsLawful m other → (c : Contents) →
    ((execute (commands_in m other) c).final ≡ (execute (commands_in m ids) c).final)
    × ((i j : ℕ) (x : Id) → slice_get ids i ≡ Some x → slice_get other j ≡ Some x
    → slice_get (execute (commands_in m other) c).replies j
    ≡ slice_get (execute (commands_in m ids) c).replies i)

-- if x and y are ready in a committed map and x does not reach y, x is before y in some lawful
-- order; so if neither reaches the other, the protocol allows both orders
abbrev pub NotReachedCanFollow : Type 0
NotReachedCanFollow = (m : List Instance) → IsRising (ids_of m) → (x y : Id) → IsReady m x
    → IsReady m y → ¬ Reaches m x y → (ids : List Id) × IsLawful m ids × Before ids x y
