use Rattle.std.proofs.Common.{◌+◌, refl, arith}
use Rattle.epx_report.proofs.LinePieceLemmas.{lines_of-split}
use Rattle.epx_report.proofs.line_pieces.cut_piece.Goals as goal

pub returns-in-Some-clause-lines : goal.returns-in-Some-clause-lines
returns-in-Some-clause-lines c =
    lines_of-split c.args.bytes.now c.split_at.result.1.now c.split_at-in-Some.result.0.now
    c.split_at-in-Some.result.1.now c.args.size c.in-Some.end (c.args.size + c.in-Some.end + 1)
    c.split_at.ensures.back (omega (arith, c.in-Some.ensures.0.high, c.split_at.ensures.back_len))
    c.in-Some.ensures.1 refl c.split_at-in-Some.ensures.front c.split_at-in-Some.ensures.back
