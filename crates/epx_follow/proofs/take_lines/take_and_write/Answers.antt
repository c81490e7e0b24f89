use Rattle.std.proofs.Common.{ℕ, List, [], inr, subst}
use Rattle.std.proofs.lemmas.Result.{err_from_is_err_and}
use Rattle.epx_follow.specs.FollowingStops.{AppendsSome}
use Rattle.epx_follow.proofs.take_lines.take_and_write.Goals as goal

pub returns-in_err-write_out-clause-stopped : goal.returns-in_err-write_out-clause-stopped
returns-in_err-write_out-clause-stopped g c =
    let e = c.in_err-write_out in
    let contents = g.W.Sink.model.contents in
    let was = contents c.args.output.now in
    let now = contents c.write_out.new.sink in
    let text = c.in_ok-next.text.items in
    let some : AppendsSome [] text was now =
    subst (λ (t : List ℕ). AppendsSome [] t was now) c.deref.ensures.value
    (e.ensures.prefix.0, e.ensures.prefix.2) in
    let p = err_from_is_err_and c.from_residual-in_err-write_out.result
    c.from_residual-in_err-write_out.ensures.1 in
    rw (p.1, p.2)
    (inr (e.ensures.faults, (c.in_ok-next.next, text, c.in_ok-next.ensures.taken, some)))
