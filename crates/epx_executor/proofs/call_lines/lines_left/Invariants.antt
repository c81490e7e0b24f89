use Rattle.std.proofs.Common.{◌≡◌, ◌+◌, ◌++◌, suc, length}
use Rattle.epx_executor.specs.CallLines.{lines_from, lines_not_done}
use Rattle.epx_executor.proofs.call_lines.lines_left.Given as goal

-- the lines so far, and those of the entries that follow
abbrev pub invariant-loop-entry : goal.invariant-loop-entry
invariant-loop-entry l =
    (l.lines.items
    ++ lines_not_done l.done (lines_from 1 (suc l.line) l.entry-iterator.rest.items)
    ≡ lines_not_done l.done (lines_from 1 1 l.fn.came.items))
    × (l.line + length l.entry-iterator.rest.items ≡ length l.fn.came.items)
