use Rattle.std.proofs.Common.{arith}
use Rattle.epx_types.proofs.Common.{piece_end-next, piece_end-last}
use Rattle.epx_laws.proofs.pieces.pieces_follow_each_other.Goals as goal

pub returns : goal.returns
returns c = λ cut items fits. record {
  first = omega arith;
  next = piece_end-next cut items fits;
  last = piece_end-last cut items fits;
}
