-- What an executor holds, and what a call of `commit` does.
use Rattle.std.specs.Prelude.{◌≡◌, ◌⊎◌, ◌↔◌, not, List, filter, zip, Contains}
use Rattle.std.specs.Coded.{Coded, coded_list, coded_ℕ, coded_ℤ}
use Rattle.std.specs.FinMap as contents
use Rattle.epx_types.specs.declared.id.Id.{Id}
use Rattle.epx_types.specs.declared.reply.Reply.{Reply}
use Rattle.epx_types.specs.CommittedMap.{ids_of}
use Rattle.epx_types.specs.Contents.{Contents}
use Rattle.epx_types.specs.Done.{is_among, remaining}
use Rattle.epx_types.specs.ExecutionOrder.{Ranked, ranked_ids, IsExecutionOrder}
use Rattle.epx_types.specs.Ids.{IsRising}
use Rattle.epx_types.specs.Instances.{Instance}
use Rattle.epx_types.specs.Readiness.{IsReady}
use Rattle.epx_committed.specs.MergedLines.{IsMerged}
use Rattle.epx_laws.specs.ResumedRunLaws.{run_on}
use Rattle.epx_executor.specs.CallLines.{call_lines}

-- what an executor holds: the executed instances, the contents of the store, and the committed
-- instances that wait
pub record ExecutorView : Type 0 where
  pub done : List Id
  pub store : Contents
  pub pending : List Instance

-- the instances that are not done, as they were committed
abbrev pub not_done : List Id → List Instance → List Instance
not_done done m = filter (λ e. not (is_among done e.id)) m

-- pending instances are by rising Id, and none is done; none is ready where dependencies on done
-- instances are left out
pub record AllWait (v : ExecutorView) : Type 0 where
  pub rising : IsRising (ids_of v.pending)
  pub not_done : (e : Instance) → Contains v.pending e → ¬ Contains v.done e.id
  pub none_ready : (x : Id) → ¬ IsReady (remaining v.done v.pending) x

-- `other` is the map that pending instances and those of `came` that are not done commit. What is
-- ready in its remaining map is executed on the store in execution order, and is done then;
-- `replies` has the reply of each, in this order. The rest of `other` is pending
pub record IsCommit (before : ExecutorView) (came : List Instance) (after : ExecutorView)
    (replies : List (Id × Reply)) : Type 0 where
  pub other : List Instance
  pub order : List Ranked
  pub merged : IsMerged (call_lines before.done before.pending came) other
  pub ordered : IsExecutionOrder (remaining before.done other) order
  pub store : after.store ≡ (run_on before.done before.store other order).final
  pub replied : replies
      ≡ zip (ranked_ids order) (run_on before.done before.store other order).replies
  pub done : (x : Id) → Contains after.done x
      ↔ (Contains before.done x ⊎ Contains (ranked_ids order) x)
  pub pending : after.pending ≡ not_done after.done other

-- the code of store contents, which a model needs (Rattle's `coded`): that of finite maps from
-- lists of natural numbers to integers
abbrev pub contents_code : Coded Contents
contents_code = contents.code (coded_list coded_ℕ) coded_ℤ
