use Rattle.std.proofs.Common.{◌≡◌, ◌<◌, length, sym, subst, arith}
use Rattle.epx_types.proofs.Common.{nat_tests}
use Rattle.epx_graph.specs.inner.Remainder.{RemainderView, rest_of}
use Rattle.epx_graph.proofs.RemainderLemmas.{IsAtPosition-same, IsAtPosition-from_table}
use Rattle.epx_graph.proofs.remainder.Remainder.position_at.Goals as goal

pub returns-then-is_empty : goal.returns-then-is_empty
returns-then-is_empty c =
    let none : length c.self.inside.done.now ≡ 0 =
    grind (arith, nat_tests, c.is_empty.ensures, c.if-is_empty.true) in
    let within = subst (λ (r : RemainderView). c.args.index < length (rest_of r))
    (sym c.self.view_is) c.requires in
    rw (sym c.self.view_is)
    (IsAtPosition-same
    (record { whole = c.self.inside.merged.now; done = c.self.inside.done.now }) none
    c.args.index within)

pub returns : goal.returns
returns c =
    let some : 0 < length c.self.inside.done.now =
    grind (arith, nat_tests, c.is_empty.ensures, c.if-is_empty.false) in
    let within = subst (λ (r : RemainderView). c.args.index < length (rest_of r))
    (sym c.self.view_is) c.requires in
    rw (sym c.self.view_is)
    (IsAtPosition-from_table _ c.self.inside.positions.items c.self.inside.positions_left.items
    (c.self.invariant.2 some) c.args.index c.index.result.now within c.index.ensures)
