use Rattle.std.proofs.Common.{◌≡◌, map, take}
use Rattle.epx_executor.specs.CallLines.{lines_from}
use Rattle.epx_executor.proofs.call_lines.pending_lines.Given as goal

abbrev pub invariant-loop-entry : goal.invariant-loop-entry
invariant-loop-entry l =
    (l.lines.items ≡ lines_from 0 1 (take l.entry-index (map (λ e. e.now) l.entries)))
    × (l.line ≡ l.entry-index)
