use Rattle.std.proofs.Common.{◌≡◌, ◌+◌, ◌≤◌, length}
use Rattle.epx_lines.specs.Lines.{lines_of}
use Rattle.epx_report.specs.inner.ListReadings.{read_list_lines, list_reading}
use Rattle.epx_report.proofs.list.read_list.Given as goal

-- each line takes at least one byte
abbrev pub invariant-loop-rest : goal.invariant-loop-rest
invariant-loop-rest l =
    record {
      read : read_list_lines l.ids.items l.line (lines_of l.rest) ≡ list_reading l.bytes;
      counted : l.line + length l.rest ≤ length l.bytes + 1;
    }

abbrev pub decreases-loop-rest : goal.decreases-loop-rest
decreases-loop-rest l = length l.rest
