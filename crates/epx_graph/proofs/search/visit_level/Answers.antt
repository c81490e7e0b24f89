use Rattle.std.proofs.Common.{List, ℕ, subst}
use Rattle.epx_graph.specs.inner.Searches.{SearchView, IsVisit}
use Rattle.epx_graph.proofs.SearchLemmas.{IsVisit-take}
use Rattle.epx_graph.proofs.search.visit_level.Goals as goal

pub loop-node-preserved : goal.loop-node-preserved
loop-node-preserved c =
    let first : SearchView = record { marks = c.args.marks.now; level = c.args.next.now.items } in
    let old : SearchView = record { marks = c.loop-node.marks; level = c.loop-node.next.items } in
    let new : SearchView = record { marks = c.visit.new.marks; level = c.visit.new.next.items } in
    IsVisit-take c.args.rows.now c.args.level.now c.loop-node.node-index c.args.mark first old new
    c.loop-node-test.true c.loop-node.invariant
    (subst (λ (row : List ℕ). IsVisit row c.args.mark old new) c.targets_of.ensures
    c.in_ok-visit.ensures)
