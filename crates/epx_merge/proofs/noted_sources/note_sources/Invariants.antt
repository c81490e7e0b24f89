use Rattle.std.proofs.Common.{◌≡◌, ◌≤◌, ◌++◌, ◌^◌, List, [], length}
use Rattle.epx_merge.specs.LogLines.{MeaningAt}
use Rattle.epx_merge.specs.between.LogReaders.{HasRead}
use Rattle.epx_merge.specs.between.RedundantLines.{DropsCached}
use Rattle.epx_merge.specs.inner.Gathered.{AreGathered, most_unread}
use Rattle.epx_merge.proofs.noted_sources.note_sources.Given as goal

-- some lines are read, and the next ones are gathered
abbrev pub invariant-loop-sources : goal.invariant-loop-sources
invariant-loop-sources g l =
    let D = g.S.Source.model in
    (length l.sources ≡ length l.fn.sources) × (length l.here ≤ 2 ^ 40)
    × ((read cut : List MeaningAt)
    × HasRead g.N.Notes.has_read g.N.Notes.refuses_bad_lines read l.reader
    × DropsCached [] cut l.here
    × AreGathered D l.fn.sources l.sources l.at (read ++ cut))

abbrev pub decreases-loop-sources : goal.decreases-loop-sources
decreases-loop-sources g l = most_unread (length l.sources) l.at
