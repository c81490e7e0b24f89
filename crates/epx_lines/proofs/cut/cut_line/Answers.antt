use Rattle.std.proofs.Common.{arith}
use Rattle.epx_lines.proofs.FirstLineLemmas.{lines_of-first, lines_of-last, lines_of-before}
use Rattle.epx_lines.proofs.FirstLineLemmas.{lines_of-at_end}
use Rattle.epx_lines.proofs.cut.cut_line.Goals as goal

pub returns-in-Some-clause-lines : goal.returns-in-Some-clause-lines
returns-in-Some-clause-lines c =
    let first = lines_of-first c.args.bytes.now c.in-Some.end
    (omega (arith, c.in-Some.ensures.0.high)) c.in-Some.ensures.0.before c.in-Some.ensures.1 in
    lines_of-before c.args.bytes.now _ c.split_at.result.1.now c.in-Some.end first
    c.split_at.ensures.front c.split_at.ensures.back

pub returns-in-None-clause-lines : goal.returns-in-None-clause-lines
returns-in-None-clause-lines c =
    let last = lines_of-last c.args.bytes.now c.requires c.in-None.ensures in
    lines_of-at_end c.args.bytes.now _ _ last c.split_at-in-None.ensures.front
    c.split_at-in-None.ensures.back
