use Rattle.epx_types.proofs.Common.{piece_start-for_item}
use Rattle.epx_laws.proofs.pieces.pieces_cover_items.Goals as goal

pub returns : goal.returns
returns c = λ cut items item fits l. piece_start-for_item cut items fits item l
