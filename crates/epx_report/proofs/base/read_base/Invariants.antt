use Rattle.std.proofs.Common.{◌≡◌, ◌+◌, ◌≤◌, length}
use Rattle.epx_lines.specs.Lines.{lines_of}
use Rattle.epx_report.specs.inner.BaseReadings.{reading, base_reading}
use Rattle.epx_report.proofs.base.read_base.Given as goal

-- each line takes at least one byte
abbrev pub invariant-loop-rest : goal.invariant-loop-rest
invariant-loop-rest l =
    record {
      read : reading l.progress l.line (lines_of l.rest) ≡ base_reading l.bytes;
      counted : l.line + length l.rest ≤ length l.bytes + 1;
    }

abbrev pub decreases-loop-rest : goal.decreases-loop-rest
decreases-loop-rest l = length l.rest
