use Rattle.std.proofs.Common.{◌≡◌, ◌∙◌, length, sym, ap, arith}
use Rattle.epx_types.proofs.Common.{nat_tests, IsRising-remaining}
use Rattle.epx_graph.proofs.RemainderLemmas.{rest_of-none_done}
use Rattle.epx_graph.proofs.remainder.Remainder.len.Goals as goal

pub returns-then-is_empty-clause-len : goal.returns-then-is_empty-clause-len
returns-then-is_empty-clause-len c =
    let none : length c.self.inside.done.now ≡ 0 =
    grind (arith, nat_tests, c.is_empty.ensures, c.if-is_empty.true) in
    rw (sym c.self.view_is)
    (c.len.ensures.len ∙ sym
    (ap length
    (rest_of-none_done (record { whole = c.self.inside.merged.now; done = c.self.inside.done.now })
    none)))

pub returns-then-is_empty-clause-rising : goal.returns-then-is_empty-clause-rising
returns-then-is_empty-clause-rising c =
    rw (sym c.self.view_is)
    (IsRising-remaining c.self.inside.done.now c.self.inside.merged.now c.self.invariant.0)

pub returns-clause-rising : goal.returns-clause-rising
returns-clause-rising c = rw (sym c.self.view_is)
    (IsRising-remaining c.self.inside.done.now c.self.inside.merged.now c.self.invariant.0)
