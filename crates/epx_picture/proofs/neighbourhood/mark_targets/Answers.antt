use Rattle.std.proofs.Common.{◌<◌, ℕ, List, Contains, get_or, take, length, sym, subst, arith}
use Rattle.epx_types.proofs.Common.{All-get_or, take_more}
use Rattle.epx_picture.specs.inner.NodeMarks.{MarkedLevel, MarksMore}
use Rattle.epx_picture.proofs.NodeMarkLemmas.{MarksMore-target_skip, MarksMore-target_more}
use Rattle.epx_picture.proofs.neighbourhood.mark_targets.Goals as goal

pub loop-target-preserved-then-marks-target : goal.loop-target-preserved-then-marks-target
loop-target-preserved-then-marks-target c =
    let targets = c.args.targets.now in
    let i = c.loop-target.target-index in
    let old : MarkedLevel = record { marks = c.args.marks.now; level = c.args.next.now.items } in
    let now : MarkedLevel = record { marks = c.loop-target.marks; level = c.loop-target.next.items }
    in
    subst (λ (xs : List ℕ). MarksMore (Contains xs) old now)
    (sym (take_more targets i 0 c.loop-target-test.true))
    (MarksMore-target_skip (take i targets) (get_or targets i 0) old now c.loop-target.invariant
    c.if-marks-target.true)

pub loop-target-preserved : goal.loop-target-preserved
loop-target-preserved c =
    let targets = c.args.targets.now in
    let i = c.loop-target.target-index in
    let old : MarkedLevel = record { marks = c.args.marks.now; level = c.args.next.now.items } in
    let now : MarkedLevel = record { marks = c.loop-target.marks; level = c.loop-target.next.items }
    in
    let given = All-get_or (λ k. k < length c.args.marks.now) targets i 0 c.loop-target-test.true
    c.requires in
    let within : get_or targets i 0 < length c.loop-target.marks =
    omega (arith, given, c.loop-target.invariant.nodes) in
    rw (c.in_ok-push.ensures.items, take_more targets i 0 c.loop-target-test.true)
    (MarksMore-target_more (take i targets) (get_or targets i 0) old now c.loop-target.invariant
    within)
