use Rattle.std.proofs.Common.{◌∙◌}
use Rattle.std.proofs.lemmas.Result.{err_from_is_err_and}
use Rattle.epx_follow.proofs.InputEndLemmas.{StopsAtEnd-unwritten, EndsInput-from_rest}
use Rattle.epx_follow.proofs.follow_logs.end_input.Goals as goal

pub returns-clause-ended : goal.returns-clause-ended
returns-clause-ended g c =
    let rest = c.in_ok-append_rest.ensures in (
      c.deref.result.now,
      EndsInput-from_rest c.args.follower c.in_ok-last.last c.in_ok-last.text.items rest.0
          c.deref.result.now c.in_ok-last.ensures.ended rest.1 (c.deref.ensures.value ∙ rest.2),
      c.in_ok-write_out.ensures.bytes,
    )

pub returns-in_err-write_out-clause-stopped : goal.returns-in_err-write_out-clause-stopped
returns-in_err-write_out-clause-stopped g c =
    let contents = g.W.Sink.model.contents in
    let e = c.in_err-write_out in
    let rest = c.in_ok-append_rest.ensures in
    let p = err_from_is_err_and c.from_residual-in_err-write_out.result
    c.from_residual-in_err-write_out.ensures.1 in
    rw (p.1, p.2)
    (StopsAtEnd-unwritten (contents c.args.output.now) (contents c.write_out.new.sink)
    c.args.follower
    c.in_ok-last.last c.deref.result.now e.field-0.0
    (EndsInput-from_rest c.args.follower c.in_ok-last.last c.in_ok-last.text.items rest.0
    c.deref.result.now c.in_ok-last.ensures.ended rest.1 (c.deref.ensures.value ∙ rest.2))
    e.ensures.faults e.ensures.prefix)
