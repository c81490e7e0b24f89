use Rattle.std.proofs.Common.{rules}
use Rattle.epx_lines.proofs.FirstLineLemmas.{lines_of-push, lines_of-none_left}
use Rattle.epx_lines.proofs.cut.cut_lines.Goals as goal

pub loop-rest-preserved : goal.loop-rest-preserved
loop-rest-preserved c =
    lines_of-push c.loop-rest.lines.items c.push.new.self.items c.cut_line.result.0
    c.loop-rest.rest.now c.cut_line.result.1.now _ c.cut_line.ensures.lines
    c.loop-rest.invariant c.in_ok-push.ensures.items

pub returns : goal.returns
returns c = lines_of-none_left c.loop-rest.lines.items c.loop-rest.rest.now _ (search rules)
    c.loop-rest.invariant
