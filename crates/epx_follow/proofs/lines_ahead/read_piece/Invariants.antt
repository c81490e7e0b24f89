use Rattle.std.proofs.Common.{All}
use Rattle.epx_follow.specs.inner.LinesAhead.{IsReadRight}
use Rattle.epx_follow.proofs.lines_ahead.read_piece.Given as goal

abbrev pub invariant-loop-bytes : goal.invariant-loop-bytes
invariant-loop-bytes l = All IsReadRight l.read.items
