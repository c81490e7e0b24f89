use Rattle.std.proofs.Common.{◌≡◌, ◌++◌, map, drop, Some}
use Rattle.epx_linear.specs.inner.HistoryReadings.{said_calls}
use Rattle.epx_linear.proofs.history_parts.read_lines.Given as goal

abbrev pub invariant-loop-line : goal.invariant-loop-line
invariant-loop-line l =
    map Some l.calls.items ++ said_calls (map (λ x. x.now) (drop l.line-index l.lines))
    ≡ said_calls (map (λ x. x.now) l.lines)
