use Rattle.std.proofs.Common.{◌≡◌, ◌<◌, ℕ, List, [], All, Contains, get_or, length, sym, ◌∙◌, subst}
use Rattle.std.proofs.Common.{subst₂}
use Rattle.epx_picture.specs.inner.NodeMarks.{MarkedLevel, MarksMore}
use Rattle.epx_picture.proofs.NodeMarkLemmas.{MarksMore-level_next, All-sources_below}
use Rattle.epx_picture.proofs.neighbourhood.mark_level.Goals as goal

pub mark_targets-requires-in-loop-node : goal.mark_targets-requires-in-loop-node
mark_targets-requires-in-loop-node c =
    let g = c.args.graph.now in
    let x = get_or c.args.level.now c.loop-node.node-index 0 in
    let nodes : length c.mark_targets.new.marks ≡ length g.ids =
    c.in_ok-mark_targets.ensures.nodes ∙ c.loop-node.invariant.nodes ∙ c.requires.nodes in
    subst₂ (λ (n : ℕ) (row : List ℕ). All (λ k. k < n) row) (sym nodes) (sym c.row.ensures)
    (All-sources_below g c.args.sources.now c.requires.sources c.edges.ensures.fits x)

pub loop-node-preserved : goal.loop-node-preserved
loop-node-preserved c =
    let a : MarkedLevel = record { marks = c.args.marks.now; level = [] } in
    let b : MarkedLevel = record { marks = c.loop-node.marks; level = c.loop-node.next.items } in
    let along : MarkedLevel =
    record { marks = c.mark_targets.new.marks; level = c.mark_targets.new.next.items } in
    let both : MarkedLevel = record {
      marks = c.mark_targets-in-loop-node.new.marks;
      level = c.mark_targets-in-loop-node.new.next.items;
    } in
    MarksMore-level_next c.args.graph.now c.args.sources.now c.requires.sources c.args.level.now
    c.loop-node.node-index c.loop-node-test.true a b along both c.loop-node.invariant
    (subst (λ (row : List ℕ). MarksMore (Contains row) b along) c.edges.ensures.edges
    c.in_ok-mark_targets.ensures)
    (subst (λ (row : List ℕ). MarksMore (Contains row) along both) c.row.ensures
    c.in_ok-mark_targets-2.ensures)
