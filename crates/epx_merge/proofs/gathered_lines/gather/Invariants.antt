use Rattle.std.proofs.Common.{◌≡◌, ◌≤◌, ◌<◌, ◌+◌, ◌++◌, ◌^◌, List, [], length}
use Rattle.epx_merge.specs.LogLines.{MeaningAt}
use Rattle.epx_merge.specs.between.RedundantLines.{DropsCached}
use Rattle.epx_merge.specs.inner.Gathered.{AreGathered, most_unread}
use Rattle.epx_merge.proofs.gathered_lines.gather.Given as goal

abbrev pub invariant-loop-at : goal.invariant-loop-at
invariant-loop-at g l =
    let D = g.S.Source.model in
    (length l.sources ≡ length l.fn.sources)
    × (most_unread (length l.sources) l.at < most_unread (length l.fn.sources) l.fn.at)
    × (length l.batch ≤ l.most + 2 ^ 26)
    × ((first : _) (lines : List MeaningAt)
    → AreGathered D first l.fn.sources l.fn.at lines
    → (cut : List MeaningAt) × DropsCached [] cut l.batch
    × AreGathered D first l.sources l.at (lines ++ cut))

abbrev pub decreases-loop-at : goal.decreases-loop-at
decreases-loop-at g l = most_unread (length l.sources) l.at
