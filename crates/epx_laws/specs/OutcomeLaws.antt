-- Laws of what becomes of each committed instance: it is executed or it waits.
use Rattle.std.specs.Prelude.{◌≡◌, ◌≢◌, ◌⊎◌, ◌↔◌, ◌+◌, ◌≤◌, List, length, Contains, AllPairs}
use Rattle.epx_types.specs.declared.id.Id.{Id}
use Rattle.epx_types.specs.Ids.{IsRising}
use Rattle.epx_types.specs.Instances.{Instance}
use Rattle.epx_types.specs.CommittedMap.{ids_of, IsCommitted}
use Rattle.epx_types.specs.ExecutionOrder.{Ranked, IsExecutionOrder, ranked_ids, component_count}
use Rattle.epx_types.specs.WaitingLists.{Waiting, IsWaitingList, waiting_ids}

-- Each committed instance, and nothing else, is executed or waits, never both, and once. So the
-- numbers in the header of a report add up: the executed and the waiting instances are together as
-- many as the committed ones, and there are no more components than executed instances
pub record EachHasOneOutcome (m : List Instance) (order : List Ranked) (waiting : List Waiting)
    : Type 0 where
  pub either : (x : Id) → IsCommitted m x
      ↔ (Contains (ranked_ids order) x ⊎ Contains (waiting_ids waiting) x)
  pub not_both : (x : Id) → Contains (ranked_ids order) x → ¬ Contains (waiting_ids waiting) x
  pub executed_once : AllPairs (λ x y. x ≢ y) (ranked_ids order)
  pub waiting_once : AllPairs (λ x y. x ≢ y) (waiting_ids waiting)
  pub counted : length order + length waiting ≡ length m
  pub components : component_count order ≤ length order

-- each instance of a committed map is once in its execution order or once in its waiting list, and
-- never in both
abbrev pub ExecutedOrWaiting : Type 0
ExecutedOrWaiting = (m : List Instance) → IsRising (ids_of m)
    → (order : List Ranked) (waiting : List Waiting) → IsExecutionOrder m order
    → IsWaitingList m waiting → EachHasOneOutcome m order waiting
