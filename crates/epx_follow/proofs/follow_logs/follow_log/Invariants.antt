use Rattle.std.proofs.Common.{◌≡◌, ◌≤◌, ◌+◌, ◌-◌, ◌++◌, ◌^◌, false, length}
use Rattle.epx_follow.proofs.FollowLemmas.{IsFollowedTo}
use Rattle.epx_follow.proofs.follow_logs.follow_log.Given as goal

abbrev pub invariant-reads : goal.invariant-reads
invariant-reads g l =
    let D = g.S.Source.model in
    let W = g.W.Sink.model in
    (D.has_failed l.source ≡ false) × (W.has_failed l.output ≡ false)
    × (l.read ≤ 2 ^ 62)
    × (l.follower.next.line + length l.begun.items ≤ l.read + 1)
    × ((h : IsFollowedTo D l.each l.fn.source l.source l.fn.follower l.follower l.begun.items
    (W.contents l.fn.output) (W.contents l.output)) × (length (h.lines ++ l.begun.items) ≡ l.read))

abbrev pub decreases-reads : goal.decreases-reads
decreases-reads g l = 2 ^ 62 - l.read
