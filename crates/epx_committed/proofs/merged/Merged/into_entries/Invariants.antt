use Rattle.std.proofs.Common.{◌≡◌, take}
use Rattle.epx_committed.specs.LineRows.{instances_at}
use Rattle.epx_committed.proofs.TakenEntryLemmas.{LaterLinesStay}
use Rattle.epx_committed.proofs.merged.Merged.into_entries.Given as goal

abbrev pub invariant-loop-index : goal.invariant-loop-index
invariant-loop-index l =
    (l.entries.items ≡ take l.index (instances_at l.initial.lists.items l.rows.items))
    × LaterLinesStay l.initial.lists.items l.lists.items l.rows.items l.index
