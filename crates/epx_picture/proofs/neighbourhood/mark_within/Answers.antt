use Rattle.std.proofs.Common.{◌≡◌, ◌+◌, ◌<◌, ℕ, Bool, false, true, List, [], All, length}
use Rattle.std.proofs.Common.{replicate, set, sym, ap, subst, subst₂, ◌∙◌, arith}
use Rattle.epx_types.proofs.Common.{nat_tests, nil_from_length}
use Rattle.epx_picture.specs.inner.NodeMarks.{MarkedLevel, MarksMore, IsNextTo, IsSearched}
use Rattle.epx_picture.proofs.NodeMarkLemmas.{IsSearched-first, IsSearched-next}
use Rattle.epx_picture.proofs.NodeMarkLemmas.{AreMarksWithin-at_end}
use Rattle.epx_picture.proofs.NodeMarkLemmas.{All-level_within, take-written_back}
use Rattle.epx_picture.proofs.neighbourhood.mark_within.Goals as goal

pub loop-step-init : goal.loop-step-init
loop-step-init c =
    let g = c.args.graph.now in
    let k = c.args.node in
    let marks : c.in_ok-marks.marks.items ≡ replicate (length g.ids) false =
    c.in_ok-marks.ensures.items_if_clones_equal (λ y same. same)
    ∙ ap (λ n. replicate n false) c.len.ensures.len in
    subst₂ (λ (marks : List Bool) (level : List ℕ). IsSearched g 0 k
    (record { marks = set marks k true; level = level })) (sym marks)
    (sym c.in_ok-level.ensures.items) (IsSearched-first g k c.requires)

pub returns-then-is_empty : goal.returns-then-is_empty
returns-then-is_empty c =
    let items = c.loop-step.level.items in
    let none : length items ≡ 0 =
    grind (arith, nat_tests, c.is_empty.ensures, c.if-is_empty.true) in
    AreMarksWithin-at_end c.args.graph.now c.args.node c.loop-step._step
    (record { marks = c.loop-step.marks.items; level = items }) c.loop-step.invariant
    (nil_from_length items none) c.args.steps (omega (arith, c.loop-step-test.true))

pub mark_level-requires-clause-level : goal.mark_level-requires-clause-level
mark_level-requires-clause-level c =
    let g = c.args.graph.now in
    subst (λ (level : List ℕ). All (λ j. j < length g.ids) level) (sym c.deref.ensures.value)
    (All-level_within g c.args.node c.loop-step._step
    (record { marks = c.loop-step.marks.items; level = c.loop-step.level.items })
    c.loop-step.invariant)

pub loop-step-preserved : goal.loop-step-preserved
loop-step-preserved c =
    let g = c.args.graph.now in
    let k = c.args.node in
    let n = c.loop-step._step in
    let marks = c.loop-step.marks.items in
    let after = c.mark_level.new.marks in
    let old : MarkedLevel = record { marks = marks; level = c.loop-step.level.items } in
    let new : MarkedLevel = record { marks = after; level = c.in_ok-level-2.level.items } in
    let more : MarksMore (IsNextTo g old.level) (record { marks = marks; level = [] }) new =
    subst₂ (λ (level : List ℕ) (before : List Bool). MarksMore (IsNextTo g level)
    (record { marks = before; level = [] }) new) c.deref.ensures.value c.deref_mut.ensures.value
    c.in_ok-level-2.ensures in
    let back =
    take-written_back after marks c.loop-step.marks.len more.nodes c.loop-step.marks.ok.0 in
    subst (λ (marks : List Bool). IsSearched g (n + 1) k
    (record { marks = marks; level = c.in_ok-level-2.level.items })) (sym back)
    (IsSearched-next g k n old c.loop-step.invariant new more)
