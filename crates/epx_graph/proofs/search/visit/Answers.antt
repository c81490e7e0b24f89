use Rattle.std.proofs.Common.{◌<◌, get_or, length, sym, arith}
use Rattle.epx_types.proofs.Common.{All-get_or}
use Rattle.epx_graph.specs.inner.Searches.{SearchView}
use Rattle.epx_graph.proofs.SearchLemmas.{IsVisit-skip, IsVisit-mark}
use Rattle.epx_graph.proofs.search.visit.Goals as goal

pub loop-target-preserved-then-is_some : goal.loop-target-preserved-then-is_some
loop-target-preserved-then-is_some c =
    let old : SearchView = record { marks = c.args.marks.now; level = c.args.next.now.items } in
    let now : SearchView = record { marks = c.loop-target.marks; level = c.loop-target.next.items }
    in
    IsVisit-skip c.args.targets.now c.loop-target.target-index c.args.mark old now
    c.loop-target-test.true c.loop-target.invariant (sym c.if-is_some.ensures)

pub loop-target-preserved : goal.loop-target-preserved
loop-target-preserved c =
    let targets = c.args.targets.now in
    let i = c.loop-target.target-index in
    let old : SearchView = record { marks = c.args.marks.now; level = c.args.next.now.items } in
    let now : SearchView = record { marks = c.loop-target.marks; level = c.loop-target.next.items }
    in
    let given = All-get_or (λ k. k < length c.args.marks.now) targets i 0 c.loop-target-test.true
    c.requires in
    let within : get_or targets i 0 < length c.loop-target.marks =
    omega (arith, given, c.loop-target.invariant.len) in
    rw c.in_ok-push.ensures.items
    (IsVisit-mark targets i c.args.mark old now c.loop-target-test.true c.loop-target.invariant
    (sym c.if-is_some.ensures) within)
