use Rattle.std.proofs.Common.{[], ◌-◌, length, take}
use Rattle.epx_executor.specs.inner.Filings.{AreAppended, AreSeen}
use Rattle.epx_executor.proofs.FilingSearchLemmas.{IsSearched, IsUnderOne}
use Rattle.epx_executor.proofs.blockers.Blockers.behind.Given as goal

abbrev pub invariant-loop-id : goal.invariant-loop-id
invariant-loop-id l = AreSeen l.seen l.found.items
    × AreAppended (IsUnderOne l.self (take l.id-index l.ids)) [] l.found.items

abbrev pub invariant-loop-next : goal.invariant-loop-next
invariant-loop-next l = AreSeen l.seen l.found.items
    × IsSearched l.self l.ids l.found.items l.next

abbrev pub decreases-loop-next : goal.decreases-loop-next
decreases-loop-next l = length l.self - l.next
