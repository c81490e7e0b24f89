-- Laws of all calls of an executor, one after another.
use Rattle.std.specs.Prelude.{◌≡◌, ℕ, List, [], ◌∷◌, map, flat_map, Contains, slice_get, Some}
use Rattle.std.specs.FinMap as contents
use Rattle.epx_types.specs.declared.id.Id.{Id}
use Rattle.epx_types.specs.declared.reply.Reply.{Reply}
use Rattle.epx_types.specs.CommittedMap.{ids_of, commands_in}
use Rattle.epx_types.specs.Conflicts.{IsCovered}
use Rattle.epx_types.specs.Execution.{execute}
use Rattle.epx_types.specs.ExecutionOrder.{Ranked, IsExecutionOrder}
use Rattle.epx_types.specs.Ids.{IsRising}
use Rattle.epx_types.specs.Instances.{Instance}
use Rattle.epx_types.specs.LawfulPrefixes.{IsLawfulPrefix}
use Rattle.epx_types.specs.Readiness.{IsReady}
use Rattle.epx_laws.specs.ResumedRunLaws.{HasReply, whole_run}
use Rattle.epx_executor.specs.Commits.{ExecutorView, IsCommit}
use Rattle.epx_executor.specs.ExecutorLaws.{new_executor}

-- a call of `commit`: what came, and the replies
abbrev pub Call : Type 0
Call = List Instance × List (Id × Reply)

-- each call, one after another, is a commit (`IsCommit`); together they lead from `before` to
-- `after`
abbrev pub AreCommits : ExecutorView → List Call → ExecutorView → Type 0
AreCommits before [] after = before ≡ after
AreCommits before (call ∷ calls) after =
    (next : ExecutorView) × IsCommit before call.0 next call.1 × AreCommits next calls after

-- the executed instances, in the order of all replies
abbrev pub executed_ids : List Call → List Id
executed_ids calls = flat_map (λ call. map (λ r. r.0) call.1) calls

-- all replies, in order
abbrev pub replies_of : List Call → List Reply
replies_of calls = flat_map (λ call. map (λ r. r.1) call.1) calls

-- each instance that came is in the map
abbrev pub CameFrom : List Instance → List Call → Type 0
CameFrom m calls = (call : Call) → Contains calls call → (e : Instance) → Contains call.0 e
    → Contains m e

-- each instance of the map came
abbrev pub AllCame : List Instance → List Call → Type 0
AllCame m calls = (e : Instance) → Contains m e
    → (call : Call) × Contains calls call × Contains call.0 e

-- Covered or not: the calls of a new executor execute, one after another, a prefix of a lawful
-- order of each committed map that contains what came. Replies and store are those of this prefix,
-- executed from the empty store
abbrev pub CallsExecuteALawfulPrefix : Type 0
CallsExecuteALawfulPrefix = (m : List Instance) → IsRising (ids_of m) →
    (calls : List Call) (after : ExecutorView) → AreCommits new_executor calls after
    → CameFrom m calls →
    IsLawfulPrefix m (executed_ids calls)
    × (execute (commands_in m (executed_ids calls)) contents.empty
    ≡ record { replies = replies_of calls; final = after.store })

-- In whatever order and batches the instances of a covered map come to a new executor, each reply
-- is the one that the instance has in a run over the whole map
abbrev pub CallsReplyAsTheWhole : Type 0
CallsReplyAsTheWhole = (m : List Instance) → IsRising (ids_of m) → IsCovered m →
    (calls : List Call) (after : ExecutorView) → AreCommits new_executor calls after
    → CameFrom m calls →
    (whole : List Ranked) → IsExecutionOrder m whole →
    (call : Call) → Contains calls call →
    (i : ℕ) (x : Id) (r : Reply) → slice_get call.1 i ≡ Some (x, r)
    → HasReply whole (whole_run m whole) x r

-- once all instances of a covered map, and no others, have come to a new executor, all ready ones
-- are done, and the store is that of a run over the whole map
abbrev pub CallsLeaveWhatTheWholeLeaves : Type 0
CallsLeaveWhatTheWholeLeaves = (m : List Instance) → IsRising (ids_of m) → IsCovered m →
    (calls : List Call) (after : ExecutorView) → AreCommits new_executor calls after
    → CameFrom m calls → AllCame m calls →
    (whole : List Ranked) → IsExecutionOrder m whole →
    ((x : Id) → IsReady m x → Contains after.done x)
    × (after.store ≡ (whole_run m whole).final)
