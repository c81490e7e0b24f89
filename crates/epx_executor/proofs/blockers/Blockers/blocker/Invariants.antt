use Rattle.std.proofs.Common.{◌-◌, length}
use Rattle.epx_executor.proofs.FilingLemmas.{IsOnWay}
use Rattle.epx_executor.proofs.blockers.Blockers.blocker.Given as goal

-- each step leaves one fewer
abbrev pub invariant-loop : goal.invariant-loop
invariant-loop l =
    let filings = l.self-inside.parents.entries in
    IsOnWay filings l.fn.id l.under (length filings - l.counter)
