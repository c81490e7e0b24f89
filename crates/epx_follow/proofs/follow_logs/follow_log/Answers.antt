use Rattle.std.proofs.Common.{◌≡◌, ◌<◌, List, ℕ, [], ◌++◌, ap, arith, false, length, length-take}
use Rattle.std.proofs.Common.{subst, take}
use Rattle.std.proofs.lemmas.Bool.{false_from_ne_true}
use Rattle.std.proofs.lemmas.Result.{IfErr-weaker, IfOk-weaker, err_from_is_err_and}
use Rattle.epx_types.proofs.Common.{common_steps, length-append}
use Rattle.epx_types.specs.declared.fault.Fault.{Fault}
use Rattle.epx_devices.specs.Deliveries.{DeliversAll}
use Rattle.epx_lines.specs.Lines.{lines_of}
use Rattle.epx_follow.specs.Following.{FollowerView}
use Rattle.epx_follow.specs.FollowingStops.{StopsAmong, StopsWithin}
use Rattle.epx_follow.specs.inner.PartsTaken.{TakesBytes}
use Rattle.epx_follow.proofs.FollowLemmas.{TakesBytes-ended, IsFollowedTo-step, length-read}
use Rattle.epx_follow.proofs.FollowLemmas.{IsFollowedTo-nothing}
use Rattle.epx_follow.proofs.FollowLemmas.{StopsWithin-last_line, StopsWithin-read}
use Rattle.epx_follow.proofs.FollowLemmas.{StopsWithin-part}
use Rattle.epx_follow.proofs.FollowLemmas.{StopsWithin-too_long}
use Rattle.epx_follow.proofs.follow_logs.follow_log.Given.{Over}
use Rattle.epx_follow.proofs.follow_logs.follow_log.Goals.{After-take_lines}
use Rattle.epx_follow.proofs.follow_logs.follow_log.Goals as goal

pub reads-init : goal.reads-init
reads-init g c =
    let none : length c.new-begun.result.items ≡ 0 = ap length c.new-begun.ensures.items in (
      c.requires.source,
      c.requires.output,
      omega arith,
      omega (arith, none, c.requires.line),
      IsFollowedTo-nothing g.S.Source.model c.args.each c.args.source.now c.args.follower
          c.new-begun.result.items (g.W.Sink.model.contents c.args.output.now)
          c.new-begun.ensures.items,
    )

pub returns-in-Err-clause-stopped : goal.returns-in-Err-clause-stopped
returns-in-Err-clause-stopped g c =
    let contents = g.W.Sink.model.contents in
    StopsWithin-read g.S.Source.model c.args.each c.args.log c.args.source.now c.reads.source
    c.read_some.new.self c.args.follower c.reads.follower c.reads.begun.items
    (contents c.args.output.now) (contents c.reads.output) c.reads.invariant.4.0
    c.in-Err.ensures.failing

pub returns-then-count-read-clause-stopped : goal.returns-then-count-read-clause-stopped
returns-then-count-read-clause-stopped g c =
    let contents = g.W.Sink.model.contents in
    let so_far = c.reads.invariant.4 in
    let begun = c.reads.begun.items in
    let room = c.read_some.new.part in
    let part = take c.in-Ok.count room in
    StopsWithin-too_long g.S.Source.model c.args.each c.args.log c.args.source.now c.reads.source
    c.read_some.new.self c.args.follower c.reads.follower begun (contents c.args.output.now)
    (contents c.reads.output) so_far.0 part (length room) c.in-Ok.ensures.delivered
    (omega (
      arith,
      length-read so_far.0.lines begun part,
      so_far.1,
      length-take c.in-Ok.count room,
      c.in-Ok.ensures.bound,
      c.if-count-read.true,
    ))

pub returns-in_err-follower-clause-stopped : goal.returns-in_err-follower-clause-stopped
returns-in_err-follower-clause-stopped g c =
    let contents = g.W.Sink.model.contents in
    let room = c.read_some.new.part in
    let p = err_from_is_err_and c.from_residual.result c.from_residual.ensures.1 in
    rw (p.1, p.2) (StopsWithin-part g.S.Source.model c.args.each c.args.log c.args.source.now
    c.reads.source c.read_some.new.self c.args.follower c.reads.follower c.reads.begun.items
    (contents c.args.output.now) (contents c.reads.output) c.reads.invariant.4.0
    (take c.in-Ok.count room) (length room) c.in_err-follower.field-0.0
    (contents c.follow_part.new.output) c.in-Ok.ensures.delivered
    c.in_err-follower.ensures.stopped)

pub reads-preserved : goal.reads-preserved
reads-preserved g c =
    let D = g.S.Source.model in
    let W = g.W.Sink.model in
    let so_far = c.reads.invariant.4 in
    let begun = c.reads.begun.items in
    let room = c.read_some.new.part in
    let part = take c.in-Ok.count room in
    let whole : D.has_failed c.read_some.new.self ≡ false = grind (arith, common_steps) in
    let on = IsFollowedTo-step D c.args.each c.args.log c.args.source.now c.reads.source
    c.read_some.new.self c.args.follower c.reads.follower begun (W.contents c.args.output.now)
    (W.contents c.reads.output) so_far.0 part c.follow_part.new.begun.items (length room)
    c.in_ok-follower.follower (W.contents c.follow_part.new.output) c.in-Ok.ensures.delivered
    c.in_ok-follower.ensures.taken in
    let count : length part ≡ c.in-Ok.count =
    omega (arith, length-take c.in-Ok.count room, c.in-Ok.ensures.bound) in (
      whole,
      false_from_ne_true (W.has_failed c.follow_part.new.output)
          (λ failed. absurd (cc (c.in_ok-follower.ensures.failed.1 failed))),
      omega (arith, c.reads.invariant.2, c.if-count-read.false),
      omega (
        arith,
        c.reads.invariant.3,
        c.in_ok-follower.ensures.counted,
        length-append begun part,
        count,
      ),
      (on.0, omega (arith, on.1, so_far.1, count)),
    )

-- the last read, which had room, returned nothing
all_delivered : (g : Over) (c : After-take_lines g)
    → DeliversAll g.S.Source.model c.args.source.now c.read_some.new.self
    (c.reads.invariant.4.0.lines ++ c.reads.begun.items)
all_delivered g c =
    let D = g.S.Source.model in
    let last = c.read_some.new.self in
    let room = c.read_some.new.part in
    let has_room : 0 < length room = grind (arith, common_steps) in
    record {
      last = c.reads.source;
      before = c.reads.invariant.4.0.delivered;
      room = length room;
      has_room = has_room;
      ended = subst (λ n. D.reads c.reads.source (length room) (take n room) last)
          c.if-count-eq0.true c.in-Ok.ensures.delivered;
    }

pub returns-clause-taken : goal.returns-clause-taken
returns-clause-taken g c =
    let D = g.S.Source.model in
    let W = g.W.Sink.model in
    let so_far = c.reads.invariant.4.0 in
    let begun = c.reads.begun.items in
    let first = c.args.source.now in
    let last = c.read_some.new.self in
    let was = W.contents c.args.output.now in
    let out = W.contents c.reads.output in
    let now = W.contents c.take_lines.new.output in
    let all = all_delivered g (goal.at.returns-clause-taken g c).After-take_lines in
    IfOk-weaker c.take_lines.result
    (λ (u : FollowerView). TakesBytes c.args.each c.reads.follower c.deref.result.now u out now)
    (λ (u : FollowerView). (bytes : List ℕ) × DeliversAll D first last bytes
    × TakesBytes c.args.each c.args.follower bytes u was now)
    (λ u h.
    let here = subst (λ bs. TakesBytes c.args.each c.reads.follower bs u out now)
    c.deref.ensures.value h in
    let bytes = TakesBytes-ended D c.args.each c.args.log first c.reads.source last c.args.follower
    c.reads.follower begun was out so_far u now here in
    (so_far.lines ++ begun, all, bytes))
    c.take_lines.ensures.taken

pub returns-clause-stopped : goal.returns-clause-stopped
returns-clause-stopped g c =
    let D = g.S.Source.model in
    let W = g.W.Sink.model in
    let so_far = c.reads.invariant.4.0 in
    let begun = c.reads.begun.items in
    let first = c.args.source.now in
    let last = c.read_some.new.self in
    let was = W.contents c.args.output.now in
    let out = W.contents c.reads.output in
    let now = W.contents c.take_lines.new.output in
    let all = all_delivered g (goal.at.returns-clause-stopped g c).After-take_lines in
    IfErr-weaker c.take_lines.result
    (λ (fault : Fault). StopsAmong c.args.each c.reads.follower (lines_of c.deref.result.now) fault
    [] out now)
    (λ (fault : Fault). StopsWithin D c.args.each c.args.log first last c.args.follower fault []
    was now)
    (λ fault h. StopsWithin-last_line D c.args.each c.args.log first c.reads.source last
    c.args.follower
    c.reads.follower begun was out so_far fault now all
    (subst (λ bs. StopsAmong c.args.each c.reads.follower (lines_of bs) fault [] out now)
    c.deref.ensures.value h)) c.take_lines.ensures.stopped
