-- What a call comes to, before anything is executed.
use Rattle.std.specs.Prelude.{◌≡◌, ◌⊎◌, ◌↔◌, ℕ, List, map, slice_get, Contains, Option}
use Rattle.epx_types.specs.declared.id.Id.{Id}
use Rattle.epx_types.specs.CommittedMap.{ids_of, ops_or_empty, commands_in}
use Rattle.epx_types.specs.Done.{remaining}
use Rattle.epx_types.specs.ExecutionOrder.{Ranked, ranked_ids, IsExecutionOrder}
use Rattle.epx_types.specs.Ids.{IsRising}
use Rattle.epx_types.specs.Instances.{Instance}
use Rattle.epx_types.specs.WaitingLists.{Waiting, IsWaitingList, waiting_ids}
use Rattle.epx_committed.specs.MergedLines.{IsMerged}
use Rattle.epx_executor.specs.declared.choose.Choice.{Choice}
use Rattle.epx_executor.specs.CallLines.{call_lines}
use Rattle.epx_executor.specs.inner.Choices.{IsBlockedIn, IsPassedOver}

-- done instances, among them all dependencies of the map that are done
pub record AreDoneDeps (done : List Id) (m : List Instance) (found : List Id) : Type 0 where
  pub only : (x : Id) → Contains found x → Contains done x
  pub whole : (e : Instance) (x : Id) → Contains m e → Contains e.deps x → Contains done x
      → Contains found x

-- the entries of the map, the execution order of its remaining map with the positions of the
-- instances, the waiting list of that map, and what is done after it
pub record IsMapBatch (done : List Id) (m entries : List Instance) (order : List Ranked)
    (positions : List (Id × ℕ)) (waiters : List Waiting) (now : List Id) : Type 0 where
  pub same : entries ≡ m
  pub ordered : IsExecutionOrder (remaining done m) order
  -- the operations at the positions are the commands of the order
  pub found : map (λ p. ops_or_empty (slice_get m p.1)) positions
      ≡ commands_in m (ranked_ids order)
  pub waiting : IsWaitingList (remaining done m) waiters
  pub done_now : (x : Id) → Contains now x ↔ (Contains done x ⊎ Contains (ranked_ids order) x)

-- The batch of the map m that the lines of a call commit. The entries are those of m at which the
-- call looks. The others are pending and not ready
pub record IsCallBatch (done : List Id) (pending came : List Instance) (choice : Option Choice)
    (entries : List Instance) (order : List Ranked) (positions : List (Id × ℕ))
    (waiters : List Waiting) (now : List Id) : Type 0 where
  pub m : List Instance
  pub merged : IsMerged (call_lines done pending came) m
  pub rising : IsRising (ids_of entries)
  pub within : (e : Instance) → Contains entries e → Contains m e
  pub whole : (e : Instance) → Contains m e → IsPassedOver choice pending e ⊎ Contains entries e
  pub ordered : IsExecutionOrder (remaining done m) order
  -- the operations at the positions are the commands of the order
  pub found : map (λ p. ops_or_empty (slice_get entries p.1)) positions
      ≡ commands_in m (ranked_ids order)
  -- each waiter reaches an instance that is not ready
  pub waits : (w : Waiting) → Contains waiters w → IsBlockedIn (remaining done m) w.id w.missing
  -- an entry that is not done then is a waiter
  pub waiting : (e : Instance) → Contains entries e → ¬ Contains now e.id
      → Contains (waiting_ids waiters) e.id
  pub done_now : (x : Id) → Contains now x ↔ (Contains done x ⊎ Contains (ranked_ids order) x)
