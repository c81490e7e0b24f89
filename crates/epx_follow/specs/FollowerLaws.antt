-- Laws of followers.
use Rattle.std.specs.Prelude.{◌≡◌, ℕ, Bool, false, List, [], ◌∷◌, ◌++◌, length, Contains, Ok}
use Rattle.epx_types.specs.declared.id.Id.{Id}
use Rattle.epx_types.specs.declared.reply.Reply.{Reply}
use Rattle.epx_types.specs.Instances.{Instance}
use Rattle.epx_types.specs.PlacedLines.{Placed}
use Rattle.epx_lines.specs.Lines.{lines_of}
use Rattle.epx_lines.specs.Meaning.{meaning_of}
use Rattle.epx_lines.specs.declared.Line.TheVariants.{Entry}
use Rattle.epx_executor.specs.Commits.{ExecutorView, IsCommit}
use Rattle.epx_executor.specs.ExecutorLaws.{HoldTheSame}
use Rattle.epx_executor.specs.HistoryLaws.{AreCommits, Call}
use Rattle.epx_follow.specs.Following.{FollowerView, IsClosed, follower_after, instances_of}
use Rattle.epx_follow.specs.BatchEnds.{EndsBatch, batch_text, count_new}
use Rattle.epx_follow.specs.InputEnds.{IsFollowed}

-- what the executor of a follower holds
abbrev pub executor_of : FollowerView → ExecutorView
executor_of v = record { done = v.done; store = v.store; pending = instances_of v.pending }

-- if no instance of the batch is done before, the end of the batch is a commit of these instances
-- by the executor of the follower, and the text has the counts of the batch and the replies of the
-- commit
abbrev pub BatchIsACommit : Type 0
BatchIsACommit = (before after : FollowerView) (text : List ℕ)
    → ((p : Placed) → Contains before.batch p → ¬ Contains before.done p.instance.id)
    → EndsBatch before after text
    → (replies : List (Id × Reply))
    × (commit : IsCommit (executor_of before) (instances_of before.batch) (executor_of after)
    replies) × (text ≡ batch_text (count_new before commit.other) (length after.pending) replies)

-- the text is that of one batch for each call, in the order of the calls: some counts, and the
-- replies of the call
abbrev pub AreBatchTexts : List Call → List ℕ → Type 0
AreBatchTexts [] text = text ≡ []
AreBatchTexts (call ∷ calls) text = (came : ℕ) × (waiting : ℕ) × (rest : List ℕ)
    × AreBatchTexts calls rest × (text ≡ batch_text came waiting call.1 ++ rest)

-- each instance that comes with one of the calls is on a line of the logs
abbrev pub AreOnLines : List (List ℕ) → List Call → Type 0
AreOnLines logs calls = (call : Call) → Contains calls call
    → (e : Instance) → Contains call.0 e → (log : List ℕ) × Contains logs log
    × ((line : List ℕ) × Contains (lines_of log) line × (meaning_of line ≡ Ok (Entry e)))

-- Following logs to their ends, from a follower whose batch is empty, is calls of its executor, one
-- for each batch: what comes with them is on the lines, and their replies are those that are
-- written. So the laws of the order and the replies of calls hold of it
abbrev pub FollowedLogsAreCommits : Type 0
FollowedLogsAreCommits = (start : FollowerView) → start.batch ≡ [] →
    (each : Bool) (logs : List (List ℕ)) (last : FollowerView) (text : List ℕ)
    → (followed : IsFollowed start each logs last text)
    → (calls : List Call) × AreCommits (executor_of start) calls (executor_of last)
    × AreOnLines logs calls × AreBatchTexts calls (followed.batches ++ followed.ended.batch)

-- a follower that goes on from an executor holds what the executor holds
abbrev pub FollowerAfterHoldsTheSame : Type 0
FollowerAfterHoldsTheSame = (v : ExecutorView) (log line : ℕ)
    → executor_of (follower_after v log line) ≡ v

-- if no batch is open in two followers, and their executors hold the same, they write the same text
-- for the same logs, whatever the places of their pending instances, and their executors hold the
-- same again
abbrev pub SameFollowersFollowAlike : Type 0
SameFollowersFollowAlike = (v w : FollowerView) → IsClosed v → IsClosed w
    → HoldTheSame (executor_of v) (executor_of w) →
    (each : Bool) (logs : List (List ℕ)) (last other : FollowerView) (text same : List ℕ)
    → IsFollowed v each logs last text → IsFollowed w each logs other same
    → (text ≡ same) × HoldTheSame (executor_of last) (executor_of other)

-- Logs are followed from a follower whose batch is empty, and are cut where no batch is open. A
-- follower with no open batch whose executor holds the same goes on: the batches before the cut,
-- and then its text, are the text without the cut, and the executors hold the same at the end
abbrev pub CutStreamsGoOn : Type 0
CutStreamsGoOn = (start : FollowerView) → start.batch ≡ [] →
    (each : Bool) (first others : List (List ℕ)) (middle : FollowerView) (begun : List ℕ)
    → (cut : IsFollowed start each first middle begun) → cut.taken.is_open ≡ false →
    (next last : FollowerView) (text : List ℕ) → IsClosed next
    → HoldTheSame (executor_of middle) (executor_of next)
    → IsFollowed next each others last text →
    (other : FollowerView) (whole : List ℕ) → IsFollowed start each (first ++ others) other whole
    → (whole ≡ cut.batches ++ text) × HoldTheSame (executor_of last) (executor_of other)
