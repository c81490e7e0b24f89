use Rattle.epx_follow.proofs.LineAheadLemmas.{IsReadRight-push}
use Rattle.epx_follow.proofs.lines_ahead.read_piece.Goals as goal

pub loop-bytes-preserved-in-Continue-branch-2 : goal.loop-bytes-preserved-in-Continue-branch-2
loop-bytes-preserved-in-Continue-branch-2 c = IsReadRight-push c.loop-bytes.read.items
    c.push.new.self.items _ c.loop-bytes.invariant c.in-Ok.ensures.ok c.in_ok-push.ensures.items
