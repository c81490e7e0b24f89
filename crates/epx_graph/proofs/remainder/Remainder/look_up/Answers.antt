use Rattle.std.proofs.Common.{◌≡◌, ◌<◌, ◌∙◌, length, sym, arith}
use Rattle.epx_types.proofs.Common.{nat_tests}
use Rattle.epx_graph.proofs.RemainderLemmas.{IsIdStateOf-found, IsIdStateOf-left, Contains-done}
use Rattle.epx_graph.proofs.RemainderLemmas.{IsIdStateOf-missing}
use Rattle.epx_graph.proofs.remainder.Remainder.look_up.Goals as goal

pub returns-then-is_empty : goal.returns-then-is_empty
returns-then-is_empty c =
    let none : length c.self.inside.done.now ≡ 0 =
    grind (arith, nat_tests, c.is_empty.ensures, c.if-is_empty.true) in
    rw (sym c.self.view_is)
    (IsIdStateOf-found (record { whole = c.self.inside.merged.now; done = c.self.inside.done.now })
    none c.args.id c.in-Some.position (sym c.position.ensures ∙ c.in-Some.is))

pub returns-in-Some-index : goal.returns-in-Some-index
returns-in-Some-index c =
    let some : 0 < length c.self.inside.done.now =
    grind (arith, nat_tests, c.is_empty.ensures, c.if-is_empty.false) in
    rw (sym c.self.view_is)
    (IsIdStateOf-left _ c.self.inside.positions.items c.self.inside.positions_left.items
    (c.self.invariant.2 some) c.self.invariant.0 c.in-Some.position c.in-Some-index.index
    c.args.id c.index.result.now (sym c.position.ensures ∙ c.in-Some.is) c.index.ensures
    c.in-Some-index.is)

pub returns-in-None : goal.returns-in-None
returns-in-None c =
    let some : 0 < length c.self.inside.done.now =
    grind (arith, nat_tests, c.is_empty.ensures, c.if-is_empty.false) in
    rw (sym c.self.view_is)
    (Contains-done _ c.self.inside.positions.items c.self.inside.positions_left.items
    (c.self.invariant.2 some) c.in-Some.position c.args.id c.index.result.now
    (sym c.position.ensures ∙ c.in-Some.is) c.index.ensures c.in-None.is)

pub returns-else-is_done : goal.returns-else-is_done
returns-else-is_done c =
    rw (sym c.self.view_is)
    (IsIdStateOf-missing
    (record { whole = c.self.inside.merged.now; done = c.self.inside.done.now })
    c.args.id (sym c.position.ensures ∙ c.in_default.is)
    (λ h. cc (c.is_done.ensures.1 h, c.if-is_done.false)))
