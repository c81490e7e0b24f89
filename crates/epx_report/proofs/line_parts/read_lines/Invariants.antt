use Rattle.std.proofs.Common.{◌≡◌, ◌++◌, map, length, Some}
use Rattle.epx_lines.specs.Lines.{lines_of}
use Rattle.epx_report.specs.Forms.{base_line_of}
use Rattle.epx_report.proofs.line_parts.read_lines.Given as goal

abbrev pub invariant-loop-rest : goal.invariant-loop-rest
invariant-loop-rest l = map Some l.said.items ++ map base_line_of (lines_of l.rest)
    ≡ map base_line_of (lines_of l.bytes)

abbrev pub decreases-loop-rest : goal.decreases-loop-rest
decreases-loop-rest l = length l.rest
