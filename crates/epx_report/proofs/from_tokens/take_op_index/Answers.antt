use Rattle.std.proofs.Common.{arith}
use Rattle.epx_report.proofs.NamedFormLemmas.{is_op_index-below}
use Rattle.epx_report.proofs.from_tokens.take_op_index.Goals as goal

pub returns-then-branch : goal.returns-then-branch
returns-then-branch c =
    let g = c.in_ok-take_number.ensures in
    (g.0, g.1, is_op_index-below g.0 _ g.2 (omega arith))
