use Rattle.std.proofs.Common.{Contains, sym, subst, ◌∙◌}
use Rattle.epx_types.proofs.Common.{is_among}
use Rattle.epx_executor.proofs.RemainderLemmas.{Contains-from_among, not-is_false}
use Rattle.epx_executor.proofs.choose.agrees.Goals as goal

pub returns-then-not-is_left : goal.returns-then-not-is_left
returns-then-not-is_left c = λ same left.
    let done = c.args.done.now in
    let among = not-is_false c.is_left.result (is_among done c.id.result) c.is_left.ensures
    c.if-not-is_left.true in
    absurd (left (subst (Contains done) c.id.ensures (Contains-from_among done c.id.result among)))

pub returns-in-Some : goal.returns-in-Some
returns-in-Some c = λ same left p h is.
    c.in-Some.ensures.only p h (is ∙ sym c.id-2.ensures) ∙ c.same_entry.ensures.0 same
