use Rattle.std.proofs.Common.{◌≡◌, ◌+◌, ◌++◌, suc, length}
use Rattle.epx_committed.specs.between.EntryLines.{entry_lines, entry_lines_from}
use Rattle.epx_committed.proofs.entries.note_each.Given as goal

-- the lines of the entries so far, and those of the rest after them
abbrev pub invariant-loop-entry : goal.invariant-loop-entry
invariant-loop-entry l =
    (l.lines.items ++ entry_lines_from (suc l.line) l.entry-iterator.rest.items
    ≡ entry_lines l.fn.entries.items)
    × (l.line + length l.entry-iterator.rest.items ≡ length l.fn.entries.items)
