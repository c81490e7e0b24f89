use Rattle.std.proofs.Common.{◌≡◌, ◌∙◌, ◌+◌, ap, arith, false, set, subst, sym}
use Rattle.std.proofs.lemmas.Bool.{false_from_ne_true}
use Rattle.std.proofs.lemmas.Result.{err_from_is_err_and}
use Rattle.epx_types.proofs.Common.{length-set}
use Rattle.epx_types.specs.declared.fault.Fault.TheVariants.{TooManyLogs}
use Rattle.epx_types.specs.declared.place.Place.{Place}
use Rattle.epx_lines.specs.Lines.{lines_of}
use Rattle.epx_follow.specs.Following.{FollowerView}
use Rattle.epx_follow.proofs.FollowLogLemmas.{AreFollowed, IsFollowed-all, AreFollowed-none}
use Rattle.epx_follow.proofs.FollowLogLemmas.{AreFollowed-step, get_or-next, StopsFollowing-at_end}
use Rattle.epx_follow.proofs.FollowLogLemmas.{StopsFollowing-next_log, StopsFollowing-too_many}
use Rattle.epx_follow.proofs.LogsTakenLemmas.{TakesLines-same_log}
use Rattle.epx_follow.proofs.follow_logs.follow.Goals as goal

pub returns-then-sources-gt-MAX_LOGS-clause-stopped :
    goal.returns-then-sources-gt-MAX_LOGS-clause-stopped
returns-then-sources-gt-MAX_LOGS-clause-stopped g c =
    StopsFollowing-too_many g.S.Source.model c.args.start c.args.each c.args.sources.now
    (g.W.Sink.model.contents c.args.output.now) TooManyLogs c.if-sources-gt-MAX_LOGS.true

pub loop-log-init : goal.loop-log-init
loop-log-init g c =
    let D = g.S.Source.model in
    let W = g.W.Sink.model in
    let begin = c.requires.begin in (
      c.requires.output,
      ap (λ (p : Place). p.line) begin,
      ap (λ (p : Place). p.log) begin,
      omega arith,
      AreFollowed-none D c.args.start c.args.each c.args.sources.now
          (W.contents c.args.output.now),
    )

pub follow_log-requires-clause-source : goal.follow_log-requires-clause-source
follow_log-requires-clause-source g c κs within =
    let D = g.S.Source.model in
    let contents = g.W.Sink.model.contents in
    let l = c.loop-log in
    let followed = l.invariant.4 in
    let d = c.index-sources-log.result in
    subst (λ s. D.has_failed s ≡ false) (sym (get_or-next D c.args.start c.args.each
    c.args.sources.now l.sources l.log l.follower (contents c.args.output.now) (contents l.output)
    followed d))
    (c.requires.sources l.log d (omega (arith, c.loop-log-test.true, followed.many)))

pub returns-in_err-followed-clause-stopped : goal.returns-in_err-followed-clause-stopped
returns-in_err-followed-clause-stopped g c =
    let contents = g.W.Sink.model.contents in
    let l = c.loop-log in
    let followed = l.invariant.4 in
    let p = err_from_is_err_and c.from_residual.result c.from_residual.ensures.1 in
    rw (p.1, p.2)
    (StopsFollowing-next_log g.S.Source.model c.args.start c.args.each c.args.sources.now
    l.sources l.log l.follower (contents c.args.output.now) (contents l.output) followed
    c.index-sources-log.result c.follow_log.new.source c.in_err-followed.field-0.0
    (contents c.follow_log.new.output) (omega (arith, c.loop-log-test.true, followed.many))
    c.in_err-followed.ensures.stopped)

pub next_log-follower-requires : goal.next_log-follower-requires
next_log-follower-requires g c =
    let l = c.loop-log in
    let taken = c.in_ok-followed.ensures.taken in
    omega (
      arith,
      TakesLines-same_log c.args.each l.follower c.in_ok-followed.followed (lines_of taken.0)
          taken.2.0
          taken.2.1,
      l.invariant.2,
      c.loop-log-test.true,
      l.invariant.4.many,
      c.if-sources-gt-MAX_LOGS.false,
    )

pub loop-log-preserved : goal.loop-log-preserved
loop-log-preserved g c =
    let D = g.S.Source.model in
    let W = g.W.Sink.model in
    let l = c.loop-log in
    let followed = l.invariant.4 in
    let taken = c.in_ok-followed.ensures.taken in
    let was = W.contents c.args.output.now in
    let out = W.contents c.follow_log.new.output in
    let later = c.follow_log.new.source in
    let next = c.next_log-follower.ensures in
    let same =
    TakesLines-same_log c.args.each l.follower c.in_ok-followed.followed (lines_of taken.0)
    taken.2.0 taken.2.1 in (
      false_from_ne_true (W.has_failed c.follow_log.new.output)
          (λ failed. absurd (cc (c.in_ok-followed.ensures.failed.1 failed))),
      ap (λ (v : FollowerView). v.next.line) next,
      ap (λ (v : FollowerView). v.next.log) next ∙ ap (λ n. n + 1) (same ∙ l.invariant.2),
      omega (arith, c.loop-log-test.true, length-set l.sources l.log later),
      subst (λ (v : FollowerView). AreFollowed D c.args.start c.args.each c.args.sources.now
          (set l.sources l.log later) (l.log + 1) v was out) (sym next)
          (AreFollowed-step D c.args.start c.args.each c.args.sources.now l.sources l.log
          l.follower was (W.contents l.output) followed c.index-sources-log.result later taken.0
          c.in_ok-followed.followed out
          (omega (arith, c.loop-log-test.true, followed.many)) taken.1 taken.2),
    )

pub returns-clause-followed : goal.returns-clause-followed
returns-clause-followed g c =
    let contents = g.W.Sink.model.contents in
    let l = c.loop-log in
    let followed = l.invariant.4 in
    IsFollowed-all g.S.Source.model c.args.start c.args.each c.args.sources.now l.sources l.log
    l.follower (contents c.args.output.now) (contents l.output) followed
    (contents c.end_input.new.output)
    (omega (arith, c.loop-log-test.false, l.invariant.3, followed.many)) c.end_input.result
    c.end_input.ensures.ended

pub returns-clause-stopped : goal.returns-clause-stopped
returns-clause-stopped g c =
    let contents = g.W.Sink.model.contents in
    let l = c.loop-log in
    let followed = l.invariant.4 in
    StopsFollowing-at_end g.S.Source.model c.args.start c.args.each c.args.sources.now l.sources
    l.log
    l.follower (contents c.args.output.now) (contents l.output) followed
    (contents c.end_input.new.output)
    (omega (arith, c.loop-log-test.false, l.invariant.3, followed.many)) c.end_input.result
    c.end_input.ensures.stopped
