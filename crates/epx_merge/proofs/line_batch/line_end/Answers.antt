use Rattle.std.proofs.Common.{arith}
use Rattle.epx_merge.proofs.LineEndLemmas.{lines_of-to_feed, lines_of-to_end}
use Rattle.epx_merge.proofs.line_batch.line_end.Goals as goal

pub returns-in-Some-clause-lines : goal.returns-in-Some-clause-lines
returns-in-Some-clause-lines c =
    lines_of-to_feed c.args.bytes.now c.args.start c.in-Some.len
    (omega (arith, c.in-Some.ensures.0.high)) c.in-Some.ensures.0.before c.in-Some.ensures.1

pub returns-in-None-clause-lines : goal.returns-in-None-clause-lines
returns-in-None-clause-lines c =
    lines_of-to_end c.args.bytes.now c.args.start c.requires c.in-None.ensures
