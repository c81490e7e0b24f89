-- The text that is written once the input ends, and that of logs which are followed to their ends.
use Rattle.std.specs.Prelude.{◌≡◌, ℕ, Bool, List, ◌++◌, flat_map}
use Rattle.std.specs.FinMap as contents
use Rattle.epx_types.specs.Done.{remaining}
use Rattle.epx_types.specs.WaitingLists.{Waiting, IsWaitingList}
use Rattle.epx_report.specs.ReportLines.{store_line, waiting_line}
use Rattle.epx_follow.specs.Following.{FollowerView, instances_of}
use Rattle.epx_follow.specs.LinesTaken.{EndsIf}
use Rattle.epx_follow.specs.LogsTaken.{TakesLogs}

-- the text has the waiting line of each pending instance that waits, by rising Id, and then the
-- store line of each key, by rising key
pub record IsRest (v : FollowerView) (text : List ℕ) : Type 0 where
  pub waiting : List Waiting
  pub listed : IsWaitingList (remaining v.done (instances_of v.pending)) waiting
  pub printed : text
      ≡ flat_map waiting_line waiting ++ flat_map store_line (contents.entries v.store)

-- the end of the input ends the batch, if one is open, and leaves the follower `last`. The text is
-- that of the batch, if one ended, and then the lines of what waits and of the store
pub record EndsInput (v last : FollowerView) (text : List ℕ) : Type 0 where
  pub batch : List ℕ
  pub rest : List ℕ
  pub ended : EndsIf v.is_open v last batch
  pub left : IsRest last rest
  pub printed : text ≡ batch ++ rest

-- the text of following these logs to their ends from `start`, after which the follower is `last`
pub record IsFollowed (start : FollowerView) (each : Bool) (logs : List (List ℕ))
    (last : FollowerView) (text : List ℕ) : Type 0 where
  -- the follower once all lines are taken, the text of their batches, and that of the end
  pub taken : FollowerView
  pub batches : List ℕ
  pub rest : List ℕ
  pub lines : TakesLogs each start logs taken batches
  pub ended : EndsInput taken last rest
  pub printed : text ≡ batches ++ rest
