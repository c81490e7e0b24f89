use Rattle.std.proofs.Common.{◌≡◌, ◌≤◌, ◌-◌, false, length}
use Rattle.epx_follow.proofs.FollowLogLemmas.{AreFollowed}
use Rattle.epx_follow.proofs.follow_logs.follow.Given as goal

abbrev pub invariant-loop-log : goal.invariant-loop-log
invariant-loop-log g l =
    let D = g.S.Source.model in
    let W = g.W.Sink.model in
    (W.has_failed l.output ≡ false) × (l.follower.next.line ≡ 1)
    × (l.follower.next.log ≡ l.log) × (l.log ≤ length l.sources)
    × AreFollowed D l.fn.start l.each l.fn.sources l.sources l.log l.follower
    (W.contents l.fn.output) (W.contents l.output)

abbrev pub decreases-loop-log : goal.decreases-loop-log
decreases-loop-log g l = length l.sources - l.log
