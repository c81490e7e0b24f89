use Rattle.std.proofs.Common.{rules, subst, T}
use Rattle.epx_types.proofs.Common.{Less-from_is_lt}
use Rattle.epx_store.proofs.RangeLemmas.{AreBelow-from_ends}
use Rattle.epx_store.proofs.ranges.are_below.Goals as goal

pub returns-in-Some-Some : goal.returns-in-Some-Some
returns-in-Some-Some c = λ less.
    AreBelow-from_ends (λ p. (p.0.now, p.1)) c.args.range.now c.args.next.now
    c.in-Some-Some.field-0-0.now c.in-Some-Some.field-0-1.now (search rules) (search rules)
    (Less-from_is_lt _ (subst T c.lt.ensures less))
