use Rattle.std.proofs.Common.{arith}
use Rattle.epx_committed.proofs.NumberRangeLemmas.{Lengthens-begin, Lengthens-next, Lengthens-same}
use Rattle.epx_committed.proofs.number_ranges.NumberRange.with_next.Goals as goal

pub returns-then-self : goal.returns-then-self
returns-then-self c = Lengthens-begin c.args.self c.args.number c.saturating_add-end.result
    c.args.position (omega (arith, c.saturating_add-end.ensures))

pub returns-then-is_next : goal.returns-then-is_next
returns-then-is_next c = let next = c.is_next.ensures c.if-is_next.true in
    Lengthens-next c.args.self c.args.number c.saturating_add-end.result c.args.position
    (omega (arith, c.saturating_add-end.ensures)) next.0 next.1

pub returns : goal.returns
returns c = Lengthens-same c.args.self c.args.number c.args.position
