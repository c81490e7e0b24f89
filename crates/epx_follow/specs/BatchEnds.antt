-- What the end of a batch does, the text that it writes, and why it is refused.
use Rattle.std.specs.Prelude.{◌≡◌, ◌⊎◌, ◌↔◌, ℕ, not, List, [], ◌∷◌, ◌++◌, length, zip}
use Rattle.std.specs.Prelude.{filter, flat_map, codes, Contains, Option, Some, find}
use Rattle.std.specs.Ordering.{is_eq}
use Rattle.serde_json.specs.Data.{Data, string}
use Rattle.epx_types.specs.declared.fault.Fault.{Fault}
use Rattle.epx_types.specs.declared.fault.Fault.TheVariants.{Memory}
use Rattle.epx_types.specs.declared.id.Id.{Id}
use Rattle.epx_types.specs.declared.reply.Reply.{Reply}
use Rattle.epx_types.specs.CommittedMap.{ids_of}
use Rattle.epx_types.specs.Done.{is_among, remaining}
use Rattle.epx_types.specs.ExecutionOrder.{Ranked, ranked_ids, IsExecutionOrder}
use Rattle.epx_types.specs.Ids.{id_cmp}
use Rattle.epx_types.specs.Instances.{Instance}
use Rattle.epx_types.specs.PlacedLines.{Placed}
use Rattle.epx_committed.specs.MergedLines.{IsMerged, IsMergeFault}
use Rattle.epx_laws.specs.ResumedRunLaws.{run_on}
use Rattle.epx_report.specs.ReportLines.{data_of_number, line_of, reply_line}
use Rattle.epx_executor.specs.CallLines.{call_lines}
use Rattle.epx_executor.specs.Commits.{not_done}
use Rattle.epx_follow.specs.CallPlaces.{at_lines, held_places}
use Rattle.epx_follow.specs.Following.{FollowerView, IsClosed, instances_of, held_lines}

-- the elements of the line `["came",N,"executed",E,"waiting",W]`: how many instances of a batch are
-- new, how many are executed, and how many wait after it
abbrev pub came_data : ℕ → ℕ → ℕ → List Data
came_data came executed waiting = string (codes "came") ∷ data_of_number came
    ∷ string (codes "executed") ∷ data_of_number executed
    ∷ string (codes "waiting") ∷ data_of_number waiting ∷ []

-- the line `["came",N,"executed",E,"waiting",W]`, the first one of the text of a batch
abbrev pub came_line : ℕ → ℕ → ℕ → List ℕ
came_line came executed waiting = line_of (came_data came executed waiting)

-- the text of a batch: the line `["came",N,"executed",E,"waiting",W]`, where E is the number of
-- replies, and then the reply lines
abbrev pub batch_text : ℕ → ℕ → List (Id × Reply) → List ℕ
batch_text came waiting replies =
    came_line came (length replies) waiting ++ flat_map reply_line replies

-- how many instances of the map m are not among those that wait in the follower v
abbrev pub count_new : FollowerView → List Instance → ℕ
count_new v m = length (filter (λ e. not (is_among (ids_of (instances_of v.pending)) e.id)) m)

-- the first of the lines that name an instance
abbrev pub first_line : List Placed → Id → Option Placed
first_line lines x = find (λ p. is_eq (id_cmp p.instance.id x)) lines

-- `placed` has the instances of m, in their order, each as the first of the lines that name it
pub record AreAtFirstLines (lines : List Placed) (m : List Instance) (placed : List Placed) : Type
    0 where
  pub instances : instances_of placed ≡ m
  pub first : (p : Placed) → Contains placed p → first_line lines p.instance.id ≡ Some p

-- The held lines of `before` commit a map. What is ready of it, apart from the done instances, is
-- executed over the store in execution order, and is done; the others wait in `after`, where no
-- batch is open. The text has the counts of the batch and the replies
pub record EndsBatch (before after : FollowerView) (text : List ℕ) : Type 0 where
  pub other : List Instance
  pub order : List Ranked
  pub merged : IsMerged (held_lines before) other
  pub ordered : IsExecutionOrder (remaining before.done other) order
  pub store : after.store ≡ (run_on before.done before.store other order).final
  pub done : (x : Id) → Contains after.done x
      ↔ (Contains before.done x ⊎ Contains (ranked_ids order) x)
  pub pending : AreAtFirstLines (held_lines before) (not_done after.done other) after.pending
  pub closed : IsClosed after
  pub next : after.next ≡ before.next
  pub written : text ≡ batch_text (count_new before other) (length after.pending)
      (zip (ranked_ids order) (run_on before.done before.store other order).replies)

-- merging the pending instances and those of the batch has this fault: too many instances, or the
-- first disagreement, with the places that its two lines have in the logs. Out of memory says
-- nothing about them
pub record RefusesCommit (v : FollowerView) (fault : Fault) : Type 0 where
  pub call : Fault
  pub refused : IsMergeFault
      (call_lines v.done (instances_of v.pending) (instances_of v.batch)) call
  pub named : fault ≡ at_lines (held_places v.pending) (held_places v.batch) call

-- why the end of a batch is refused: the held lines name too many instances, or two of them
-- disagree. Out of memory says nothing about it
abbrev pub RefusesBatch : FollowerView → Fault → Type 0
RefusesBatch v fault = (fault ≡ Memory) ⊎ RefusesCommit v fault
