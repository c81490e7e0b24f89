use Rattle.std.proofs.Common.{drop}
use Rattle.epx_merge.proofs.ReadPieceLemmas.{IsReading}
use Rattle.epx_merge.proofs.pieces.read_lines.Given as goal

abbrev pub invariant-loop-at : goal.invariant-loop-at
invariant-loop-at l = IsReading l.cache l.lines (drop l.at l.lines) l.piece.entries.items
