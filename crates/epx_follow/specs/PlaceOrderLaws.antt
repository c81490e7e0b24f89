-- Laws of followers that hold their lines in the order of the places, as each does that started at
-- the beginning of its logs.
use Rattle.std.specs.Prelude.{◌≡◌, ℕ, Bool, List, Some, AllPairs, Contains}
use Rattle.epx_types.specs.declared.fault.Fault.{Fault}
use Rattle.epx_types.specs.CommittedMap.{ids_of}
use Rattle.epx_types.specs.Ids.{IsRising}
use Rattle.epx_types.specs.Instances.{Instance}
use Rattle.epx_types.specs.PlacedLines.{Placed, Earlier}
use Rattle.epx_committed.specs.MergedLines.{IsMergeFault}
use Rattle.epx_follow.specs.Following.{FollowerView, at_next_log, held_lines, instances_of}
use Rattle.epx_follow.specs.Following.{joined, new_follower, passed}
use Rattle.epx_follow.specs.BatchEnds.{RefusesBatch, first_line}
use Rattle.epx_follow.specs.LinesTaken.{TakesLine}

-- The pending instances are by rising Id, and no instance of the batch is done. The places of the
-- batch rise, and come after those of the pending lines; the next line comes after all of them
pub record AreInPlaceOrder (v : FollowerView) : Type 0 where
  pub rising : IsRising (ids_of (instances_of v.pending))
  pub left : (p : Placed) → Contains v.batch p → ¬ Contains v.done p.instance.id
  pub in_order : AllPairs (λ p q. Earlier p.place q.place) v.batch
  pub apart : (p q : Placed) → Contains v.pending p → Contains v.batch q
      → Earlier p.place q.place
  pub past : (p : Placed) → Contains (held_lines v) p → Earlier p.place v.next

-- a new follower holds its lines in the order of their places (`AreInPlaceOrder`), and each
-- follower that does so still does after any line that it takes, and at the next log
abbrev pub LinesStayInOrder : Type 0
LinesStayInOrder = AreInPlaceOrder new_follower
    × ((v : FollowerView) → AreInPlaceOrder v → AreInPlaceOrder (passed v))
    × ((v : FollowerView) (e : Instance) → AreInPlaceOrder v → AreInPlaceOrder (joined v e))
    × ((each : Bool) (line : List ℕ) (v w : FollowerView) (text : List ℕ)
    → AreInPlaceOrder v → TakesLine each line v w text → AreInPlaceOrder w)
    × ((v : FollowerView) → AreInPlaceOrder v → AreInPlaceOrder (at_next_log v))

-- where lines are held in the order of their places, the first line of an instance that came is
-- the earliest one
abbrev pub FirstLinesAreEarliest : Type 0
FirstLinesAreEarliest = (v : FollowerView) → AreInPlaceOrder v → (p q : Placed)
    → first_line (held_lines v) p.instance.id ≡ Some p → Contains (held_lines v) q
    → q.instance.id ≡ p.instance.id → ¬ Earlier q.place p.place

-- where lines are held in the order of their places, a fault with which the end of a batch is
-- refused is one of merging the held lines, so the first place that a disagreement names is the
-- earlier one
abbrev pub RefusedBatchIsARefusedMerge : Type 0
RefusedBatchIsARefusedMerge = (v : FollowerView) → AreInPlaceOrder v → (fault : Fault)
    → RefusesBatch v fault → IsMergeFault (held_lines v) fault
