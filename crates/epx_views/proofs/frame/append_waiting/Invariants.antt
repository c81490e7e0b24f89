use Rattle.std.proofs.Common.{◌≡◌, ◌++◌, flat_map, drop}
use Rattle.epx_report.specs.ReportLines.{waiting_line}
use Rattle.epx_views.proofs.frame.append_waiting.Given as goal

abbrev pub invariant-loop-waiter : goal.invariant-loop-waiter
invariant-loop-waiter l = l.text.items ++ flat_map waiting_line (drop l.waiter-index l.waiters)
    ≡ l.fn.text.items ++ flat_map waiting_line l.fn.waiters
