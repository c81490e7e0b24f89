-- Laws of resumed runs: executing the remaining map over the contents that the done instances
-- left.
use Rattle.std.specs.Prelude.{◌≡◌, ◌⊎◌, ◌↔◌, ℕ, List, [], ◌++◌, Contains, slice_get, Some}
use Rattle.std.specs.FinMap as contents
use Rattle.epx_types.specs.declared.id.Id.{Id}
use Rattle.epx_types.specs.declared.reply.Reply.{Reply}
use Rattle.epx_types.specs.Ids.{IsRising}
use Rattle.epx_types.specs.Instances.{Instance}
use Rattle.epx_types.specs.Contents.{Contents}
use Rattle.epx_types.specs.CommittedMap.{ids_of, commands_in}
use Rattle.epx_types.specs.Execution.{execute, Execution}
use Rattle.epx_types.specs.Reaching.{Reaches}
use Rattle.epx_types.specs.Readiness.{IsReady, WaitsFor}
use Rattle.epx_types.specs.Conflicts.{IsCovered}
use Rattle.epx_types.specs.ExecutionOrder.{Ranked, ranked_ids, IsExecutionOrder}
use Rattle.epx_types.specs.LawfulOrders.{IsLawfulFor, IsLawful}
use Rattle.epx_types.specs.Done.{remaining, remaining_ids}
use Rattle.epx_types.specs.Sound.{IsSound, HasRemaining}

-- if nothing is done, the empty contents are sound
abbrev pub NothingDoneIsSound : Type 0
NothingDoneIsSound = (m : List Instance) → IsSound m [] contents.empty

-- a list of ready instances that has all that they reach, and is lawful for its instances, is a
-- lawful order if the other instances of a lawful order follow, in that order
abbrev pub PartAndRestAreLawful : Type 0
PartAndRestAreLawful = (m : List Instance) (part whole : List Id)
    → ((x : Id) → Contains part x → IsReady m x)
    → ((x y : Id) → Contains part x → Reaches m x y → Contains part y) →
    IsLawfulFor m (Contains part) part → IsLawful m whole
    → IsLawful m (part ++ remaining_ids part whole)

-- the commands of a map's instances in the given order, executed from the empty contents
abbrev pub whole_run : List Instance → List Ranked → Execution
whole_run m order = execute (commands_in m (ranked_ids order)) contents.empty

-- if a committed map contains a part, the instances of the part's execution order are sound for the
-- map, with the contents that executing them from the empty contents leaves
abbrev pub PartIsSound : Type 0
PartIsSound = (m part : List Instance) → IsRising (ids_of m)
    → ((e : Instance) → Contains part e → Contains m e) → (order : List Ranked)
    → IsExecutionOrder part order → IsSound m (ranked_ids order) (whole_run part order).final

-- the commands of a map without its done instances, in the given order, executed over the given
-- contents
abbrev pub run_on : List Id → Contents → List Instance → List Ranked → Execution
run_on done c other order = execute (commands_in (remaining done other) (ranked_ids order)) c

-- The Ids of m rise. The done instances and their contents are sound for m. Each instance of the
-- other map that is not done is an instance of m
pub record CanResume (m : List Instance) (done : List Id) (c : Contents)
    (other : List Instance) : Type 0 where
  pub rising : IsRising (ids_of m)
  pub sound : IsSound m done c
  pub has : HasRemaining m done other

-- in the execution of this order, x has the reply r
abbrev pub HasReply : List Ranked → Execution → Id → Reply → Type 0
HasReply order e x r = (i : ℕ) × (slice_get (ranked_ids order) i ≡ Some x)
    × (slice_get e.replies i ≡ Some r)

-- if `CanResume` holds and m is covered, executing what remains of the other map, in its execution
-- order over c, has for each instance the reply that it has in a run over the whole of m
abbrev pub ResumedRepliesAreThoseOfTheWhole : Type 0
ResumedRepliesAreThoseOfTheWhole = (m other : List Instance) (done : List Id) (c : Contents)
    → CanResume m done c other → IsCovered m →
    (order whole : List Ranked) → IsExecutionOrder (remaining done other) order
    → IsExecutionOrder m whole →
    (x : Id) (r : Reply) → HasReply order (run_on done c other order) x r
    → HasReply whole (whole_run m whole) x r

-- if `CanResume` holds, the instances done before and those that a resumed run executes, with the
-- contents that it leaves, are sound for m
abbrev pub ResumingStaysSound : Type 0
ResumingStaysSound = (m other : List Instance) (done : List Id) (c : Contents)
    → CanResume m done c other →
    (order : List Ranked) → IsExecutionOrder (remaining done other) order →
    (now : List Id)
    → ((x : Id) → Contains now x ↔ (Contains done x ⊎ Contains (ranked_ids order) x))
    → IsSound m now (run_on done c other order).final

-- if done instances and contents are sound for a covered committed map, and all its ready instances
-- are done, the contents are those that a run over the whole map leaves
abbrev pub AllDoneIsTheWhole : Type 0
AllDoneIsTheWhole = (m : List Instance) → IsRising (ids_of m) → IsCovered m
    → (done : List Id) (c : Contents) → IsSound m done c
    → ((x : Id) → IsReady m x → Contains done x) →
    (whole : List Ranked) → IsExecutionOrder m whole → c ≡ (whole_run m whole).final

-- if `CanResume` holds, m is covered and the other map has each instance of m that is not done, a
-- resumed run leaves the contents that a run over the whole of m leaves
abbrev pub ResumingWithAllLeftIsTheWhole : Type 0
ResumingWithAllLeftIsTheWhole = (m other : List Instance) (done : List Id) (c : Contents)
    → CanResume m done c other → HasRemaining other done m → IsCovered m →
    (order whole : List Ranked) → IsExecutionOrder (remaining done other) order
    → IsExecutionOrder m whole → (run_on done c other order).final ≡ (whole_run m whole).final

-- if `CanResume` holds and the other map has each instance of m that is not done, an instance that
-- is not done waits in a resumed run exactly for what it waits for in m
abbrev pub ResumedRunsWaitAlike : Type 0
ResumedRunsWaitAlike = (m other : List Instance) (done : List Id) (c : Contents)
    → CanResume m done c other → HasRemaining other done m → (x y : Id) → ¬ Contains done x
    → WaitsFor (remaining done other) x y ↔ WaitsFor m x y
