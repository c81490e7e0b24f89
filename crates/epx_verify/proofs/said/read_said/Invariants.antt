use Rattle.std.proofs.Common.{◌≡◌, ◌+◌, ◌≤◌, length}
use Rattle.epx_lines.specs.Lines.{lines_of}
use Rattle.epx_verify.specs.inner.SaidReadings.{read_said_lines, said_reading}
use Rattle.epx_verify.proofs.said.read_said.Given as goal

-- each line takes at least one byte
abbrev pub invariant-loop-rest : goal.invariant-loop-rest
invariant-loop-rest l =
    record {
      read : read_said_lines l.so_far l.line (lines_of l.rest) ≡ said_reading l.bytes;
      counted : l.line + length l.rest ≤ length l.bytes + 1;
    }

abbrev pub decreases-loop-rest : goal.decreases-loop-rest
decreases-loop-rest l = length l.rest
