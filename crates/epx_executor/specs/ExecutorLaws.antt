-- Laws of one commit, over any committed map that contains all that came.
use Rattle.std.specs.Prelude.{◌≡◌, ◌⊎◌, ◌↔◌, ℕ, List, [], Contains, slice_get, Some}
use Rattle.std.specs.FinMap as contents
use Rattle.epx_types.specs.declared.id.Id.{Id}
use Rattle.epx_types.specs.declared.reply.Reply.{Reply}
use Rattle.epx_types.specs.CommittedMap.{ids_of}
use Rattle.epx_types.specs.Conflicts.{IsCovered}
use Rattle.epx_types.specs.Done.{remaining}
use Rattle.epx_types.specs.ExecutionOrder.{Ranked, IsExecutionOrder}
use Rattle.epx_types.specs.Ids.{IsRising}
use Rattle.epx_types.specs.Instances.{Instance}
use Rattle.epx_types.specs.Readiness.{IsReady}
use Rattle.epx_types.specs.Sound.{IsSound, HasRemaining}
use Rattle.epx_laws.specs.ResumedRunLaws.{HasReply, whole_run}
use Rattle.epx_executor.specs.Commits.{ExecutorView, IsCommit, AllWait}

-- nothing is done, and the store is empty
abbrev pub new_executor : ExecutorView
new_executor = record { done = []; store = contents.empty; pending = [] }

-- The Ids of m rise. The done instances and the store are sound for m, and each pending instance
-- that is not done is one of m
pub record IsSoundFor (m : List Instance) (v : ExecutorView) : Type 0 where
  pub rising : IsRising (ids_of m)
  pub sound : IsSound m v.done v.store
  pub has : HasRemaining m v.done v.pending

-- a new executor is sound for every committed map
abbrev pub NewExecutorIsSound : Type 0
NewExecutorIsSound = (m : List Instance) → IsRising (ids_of m) → IsSoundFor m new_executor

-- after a commit, an executor that was sound for a map is sound for it if each instance that came
-- was done or is in the map
abbrev pub CommittingStaysSound : Type 0
CommittingStaysSound = (m came : List Instance) (before after : ExecutorView)
    (replies : List (Id × Reply)) → IsSoundFor m before → HasRemaining m before.done came
    → IsCommit before came after replies → IsSoundFor m after

-- if an executor is sound for a covered map and each instance that comes is done or in the map,
-- each reply is the one that the instance has in a run over the whole map
abbrev pub CommittedRepliesAreThoseOfTheWhole : Type 0
CommittedRepliesAreThoseOfTheWhole = (m came : List Instance) (before after : ExecutorView)
    (replies : List (Id × Reply)) → IsSoundFor m before → HasRemaining m before.done came
    → IsCommit before came after replies → IsCovered m →
    (whole : List Ranked) → IsExecutionOrder m whole →
    (i : ℕ) (x : Id) (r : Reply) → slice_get replies i ≡ Some (x, r)
    → HasReply whole (whole_run m whole) x r

-- once all ready instances of a covered map are done in an executor that is sound for it, its store
-- is that of a run over the whole map
abbrev pub AllCommittedIsTheWhole : Type 0
AllCommittedIsTheWhole = (m : List Instance) (v : ExecutorView) → IsSoundFor m v → IsCovered m
    → ((x : Id) → IsReady m x → Contains v.done x) →
    (whole : List Ranked) → IsExecutionOrder m whole → v.store ≡ (whole_run m whole).final

-- after a commit no pending instance is done or ready
abbrev pub CommitLeavesNoneReady : Type 0
CommitLeavesNoneReady = (came : List Instance) (before after : ExecutorView)
    (replies : List (Id × Reply)) → IsCommit before came after replies → AllWait after

-- if the instances of a map that are not done are those that are pending or come, its remaining map
-- is the one that the commit executes
abbrev pub CommitResumesAllThatCame : Type 0
CommitResumesAllThatCame = (came : List Instance) (before after : ExecutorView)
    (replies : List (Id × Reply)) → (commit : IsCommit before came after replies)
    → (all : List Instance) → IsRising (ids_of all)
    → ((e : Instance) → ¬ Contains before.done e.id
    → Contains all e ↔ (Contains before.pending e ⊎ Contains came e))
    → remaining before.done all ≡ remaining before.done commit.other

-- a map has the pending instances, and no others that are not done; all done Ids are ready in it.
-- Then, if `AllWait` holds, only done Ids are ready in it
abbrev pub NothingIsHeldBack : Type 0
NothingIsHeldBack = (v : ExecutorView) → AllWait v → (all : List Instance)
    → IsRising (ids_of all)
    → ((e : Instance) → ¬ Contains v.done e.id → Contains all e ↔ Contains v.pending e)
    → ((x : Id) → Contains v.done x → IsReady all x) →
    (x : Id) → ¬ Contains v.done x → ¬ IsReady all x

-- an instance that a commit executes was not done before it
abbrev pub NoneIsExecutedTwice : Type 0
NoneIsExecutedTwice = (came : List Instance) (before after : ExecutorView)
    (replies : List (Id × Reply)) → IsCommit before came after replies →
    (i : ℕ) (x : Id) (r : Reply) → slice_get replies i ≡ Some (x, r) → ¬ Contains before.done x

-- two executors have the same done instances, in any order, the same store and the same list of
-- pending instances
pub record HoldTheSame (v w : ExecutorView) : Type 0 where
  pub done : (x : Id) → Contains v.done x ↔ Contains w.done x
  pub store : v.store ≡ w.store
  pub pending : v.pending ≡ w.pending

-- executors that hold the same reply alike to what comes, and hold the same again
abbrev pub SameExecutorsCommitAlike : Type 0
SameExecutorsCommitAlike = (v w : ExecutorView) → HoldTheSame v w → (came : List Instance)
    (next last : ExecutorView) (replies others : List (Id × Reply))
    → IsCommit v came next replies → IsCommit w came last others
    → (replies ≡ others) × HoldTheSame next last

-- an executor that starts with what another one has done and stored, and commits what is pending
-- there, replies nothing and holds the same, if `AllWait` holds of the other one
abbrev pub RestartedExecutorHoldsTheSame : Type 0
RestartedExecutorHoldsTheSame = (v : ExecutorView) → AllWait v →
    (done : List Id) → ((x : Id) → Contains done x ↔ Contains v.done x) →
    (after : ExecutorView) (replies : List (Id × Reply))
    → IsCommit (record { done = done; store = v.store; pending = [] }) v.pending after replies
    → (replies ≡ []) × HoldTheSame after v
