use Rattle.std.proofs.Common.{◌≡◌, ◌≤◌, ◌+◌, false, length}
use Rattle.epx_follow.proofs.OpenBatchLemmas.{TakesTo}
use Rattle.epx_follow.proofs.take_lines.take_lines.Given as goal

abbrev pub invariant-loop-rest : goal.invariant-loop-rest
invariant-loop-rest g l =
    let W = g.W.Sink.model in
    (W.has_failed l.output ≡ false)
    × (l.follower.next.line + length l.rest ≤ l.fn.follower.next.line + length l.bytes)
    × TakesTo l.each l.fn.follower l.bytes l.follower l.rest (W.contents l.fn.output)
    (W.contents l.output)

abbrev pub decreases-loop-rest : goal.decreases-loop-rest
decreases-loop-rest g l = length l.rest
