use Rattle.epx_types.proofs.Common.{piece_end-after_start, piece_end-within_cut}
use Rattle.epx_laws.proofs.pieces.piece_size_is_bounded.Goals as goal

pub returns : goal.returns
returns c = λ cut items piece fits l.
    (piece_end-after_start cut items fits piece l, piece_end-within_cut cut items fits piece)
