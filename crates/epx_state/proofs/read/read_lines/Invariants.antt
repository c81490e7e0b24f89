use Rattle.std.proofs.Common.{◌+◌, ◌≤◌, length}
use Rattle.epx_lines.specs.Lines.{lines_of}
use Rattle.epx_state.specs.inner.StateProgress.{IsReadTo}
use Rattle.epx_state.proofs.read.read_lines.Given as goal

-- each line takes at least one byte
abbrev pub invariant-loop-rest : goal.invariant-loop-rest
invariant-loop-rest l =
    record {
      read : IsReadTo (lines_of l.bytes) (lines_of l.rest) l.line l.progress;
      counted : l.line + length l.rest ≤ length l.bytes + 1;
    }

abbrev pub decreases-loop-rest : goal.decreases-loop-rest
decreases-loop-rest l = length l.rest
