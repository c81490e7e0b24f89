use Rattle.std.proofs.Common.{arith}
use Rattle.epx_linear.proofs.CallTokenLemmas.{op_index_of-below}
use Rattle.epx_linear.proofs.call_tokens.take_op_index.Goals as goal

pub returns-then-index : goal.returns-then-index
returns-then-index c =
    let g = c.in_ok-index.ensures in
    (g.0, g.1, op_index_of-below g.0 _ g.2 (omega arith))
