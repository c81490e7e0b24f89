use Rattle.std.proofs.Common.{◌≡◌, ◌+◌, ◌≤◌, length}
use Rattle.epx_lines.specs.Lines.{lines_of}
use Rattle.epx_linear.specs.inner.HistoryReadings.{called_ids, read_call_lines, history_reading}
use Rattle.epx_linear.proofs.history.read_in_order.Given as goal

-- each line takes at least one byte
abbrev pub invariant-loop-rest : goal.invariant-loop-rest
invariant-loop-rest l =
    record {
      read : read_call_lines l.calls.items l.line (lines_of l.rest) ≡ history_reading l.bytes;
      ids : l.ids.keys ≡ called_ids l.calls.items;
      counted : l.line + length l.rest ≤ length l.bytes + 1;
    }

abbrev pub decreases-loop-rest : goal.decreases-loop-rest
decreases-loop-rest l = length l.rest
