use Rattle.std.proofs.Common.{◌≡◌, ◌++◌, flat_map, drop}
use Rattle.epx_report.specs.ViewLines.{order_line}
use Rattle.epx_views.proofs.order_text.append_order.Given as goal

abbrev pub invariant-loop-position : goal.invariant-loop-position
invariant-loop-position l = l.text.items ++ flat_map order_line (drop l.position l.order)
    ≡ l.fn.text.items ++ flat_map order_line l.fn.order
