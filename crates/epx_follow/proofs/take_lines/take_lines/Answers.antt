use Rattle.std.proofs.Common.{◌∙◌, ◌++◌, ap, arith, rules, sym}
use Rattle.std.proofs.Common.{true≢false}
use Rattle.std.proofs.lemmas.Bool.{false_from_ne_true}
use Rattle.std.proofs.lemmas.Result.{err_from_is_err_and}
use Rattle.epx_lines.specs.Lines.{lines_of}
use Rattle.epx_follow.proofs.LogsTakenLemmas.{StopsAmong-line}
use Rattle.epx_follow.proofs.OpenBatchLemmas.{TakesTo, TakesBytes-to_end, TakesTo-held}
use Rattle.epx_follow.proofs.OpenBatchLemmas.{TakesTo-line, StopsAmong-taken}
use Rattle.epx_follow.proofs.take_lines.take_lines.Given.{Over}
use Rattle.epx_follow.proofs.take_lines.take_lines.Goals as goal
use Rattle.epx_follow.proofs.take_lines.take_lines.Goals.{In_ok-held}

-- the lines that are taken and held so far
so_far : (g : Over) (c : In_ok-held g) → TakesTo c.args.each c.args.follower c.args.bytes.now
    c.in_ok-held.held c.in_ok-held.others.now (g.W.Sink.model.contents c.args.output.now)
    (g.W.Sink.model.contents c.loop-rest.output)
so_far g c = TakesTo-held c.args.each c.args.follower c.loop-rest.follower c.in_ok-held.held
    c.args.bytes.now c.loop-rest.rest.now c.in_ok-held.others.now
    (g.W.Sink.model.contents c.args.output.now) (g.W.Sink.model.contents c.loop-rest.output)
    c.loop-rest.invariant.2 c.in_ok-held.ensures.held

pub returns-in_err-held-clause-stopped : goal.returns-in_err-held-clause-stopped
returns-in_err-held-clause-stopped g c =
    let contents = g.W.Sink.model.contents in
    let now = contents c.loop-rest.output in
    let p = err_from_is_err_and c.from_residual.result c.from_residual.ensures.1 in
    rw (p.1, p.2)
    (StopsAmong-taken c.args.each c.args.follower c.loop-rest.follower c.args.bytes.now
    c.loop-rest.rest.now c.in_err-held.field-0.0 (contents c.args.output.now) now now
    c.loop-rest.invariant.2 (c.in_err-held.ensures.refused now))

pub returns-in_err-held-clause-failed : goal.returns-in_err-held-clause-failed
returns-in_err-held-clause-failed g c =
    let p = err_from_is_err_and c.from_residual.result c.from_residual.ensures.1 in (
      λ is. absurd (c.in_err-held.ensures.unwritten (cc (p.1, p.2, is))),
      λ failed. absurd (true≢false (sym failed ∙ c.loop-rest.invariant.0)),
    )

pub returns-then-is_empty-clause-taken : goal.returns-then-is_empty-clause-taken
returns-then-is_empty-clause-taken g c =
    TakesBytes-to_end c.args.each c.args.follower c.in_ok-held.held
    c.args.bytes.now c.in_ok-held.others.now (g.W.Sink.model.contents c.args.output.now)
    (g.W.Sink.model.contents c.loop-rest.output)
    (so_far g (goal.at.returns-then-is_empty-clause-taken g c).In_ok-held) (search rules)

pub returns-in_err-follower-clause-stopped : goal.returns-in_err-follower-clause-stopped
returns-in_err-follower-clause-stopped g c =
    let contents = g.W.Sink.model.contents in
    let line = c.cut_line.result.0.now in
    let more = lines_of c.cut_line.result.1.now in
    let here = so_far g (goal.at.returns-in_err-follower-clause-stopped g c).In_ok-held in
    let p = err_from_is_err_and c.from_residual-in_err-follower.result
    c.from_residual-in_err-follower.ensures.1 in
    rw (p.1, p.2) (StopsAmong-line c.args.each c.args.follower c.in_ok-held.held here.0 more
    (lines_of c.args.bytes.now) line c.in_err-follower.field-0.0 (contents c.args.output.now)
    (contents c.loop-rest.output) (contents c.take_and_write.new.output) here.1 here.3 here.4
    c.in_err-follower.ensures.stopped (here.2 ∙ ap (λ ls. here.0 ++ ls) c.cut_line.ensures.lines))

pub loop-rest-smaller : goal.loop-rest-smaller
loop-rest-smaller g c = omega (arith, c.in_ok-held.ensures.fewer, c.cut_line.ensures.rest)

pub loop-rest-preserved : goal.loop-rest-preserved
loop-rest-preserved g c =
    let contents = g.W.Sink.model.contents in
    let next = c.in_ok-follower.follower in
    let taken = c.in_ok-follower.ensures.taken in
    let here = so_far g (goal.at.loop-rest-preserved g c).In_ok-held in (
      false_from_ne_true (g.W.Sink.model.has_failed c.take_and_write.new.output)
          (λ failed. absurd (cc (c.in_ok-follower.ensures.failed.1 failed))),
      omega (
        arith,
        c.loop-rest.invariant.1,
        c.in_ok-held.ensures.counted,
        c.in_ok-follower.ensures.counted,
        c.cut_line.ensures.rest,
      ),
      TakesTo-line c.args.each c.args.follower c.in_ok-held.held next c.args.bytes.now
          c.in_ok-held.others.now c.cut_line.result.0.now c.cut_line.result.1.now
          (contents c.args.output.now) (contents c.loop-rest.output)
          (contents c.take_and_write.new.output) taken.0 here c.cut_line.ensures.lines taken.1
          taken.2,
    )

pub returns-clause-taken : goal.returns-clause-taken
returns-clause-taken g c = TakesBytes-to_end c.args.each c.args.follower c.loop-rest.follower
    c.args.bytes.now c.loop-rest.rest.now (g.W.Sink.model.contents c.args.output.now)
    (g.W.Sink.model.contents c.loop-rest.output) c.loop-rest.invariant.2 (search rules)
