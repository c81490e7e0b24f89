use Rattle.std.proofs.Common.{◌≡◌, ◌+◌, ◌≤◌, ◌++◌, flat_map, length}
use Rattle.epx_lines.specs.Lines.{lines_of}
use Rattle.epx_report.proofs.line_pieces.cut_pieces.Given as goal

-- each piece has at least one byte
abbrev pub invariant-loop-rest : goal.invariant-loop-rest
invariant-loop-rest l =
    record {
      lines : flat_map (λ piece. lines_of piece.now) l.pieces.items ++ lines_of l.rest
          ≡ lines_of l.bytes;
      few : length l.pieces.items + length l.rest ≤ length l.bytes;
    }

abbrev pub decreases-loop-rest : goal.decreases-loop-rest
decreases-loop-rest l = length l.rest
