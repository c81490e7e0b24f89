use Rattle.std.proofs.Common.{take}
use Rattle.epx_executor.specs.inner.Filings.{AreAppended, AreSeen}
use Rattle.epx_executor.proofs.FilingSearchLemmas.{IsAmongFiled}
use Rattle.epx_executor.proofs.blockers.Blockers.push_filed.Given as goal

abbrev pub invariant-loop-id : goal.invariant-loop-id
invariant-loop-id l =
    let part = take l.id-index l.id-items in
    AreSeen l.seen l.found.items
    × AreAppended (IsAmongFiled l.self-inside.parents.entries l.under part) l.initial.found.items
    l.found.items
