use Rattle.std.proofs.Common.{◌≡◌, Bool, true, false, take, sym, subst, inl, inr, ◌+◌}
use Rattle.epx_why.specs.inner.NodeWalks.{AreNext}
use Rattle.epx_why.proofs.TargetLemmas.{AreNext-without, AreNext-with}
use Rattle.epx_why.proofs.walk.next_node.Goals as goal
use Rattle.epx_why.proofs.walk.next_node.Goals.{then-has_distance+then-is_before, else-has_distance}
use Rattle.epx_why.proofs.walk.next_node.Goals.{else-has_distance-via-then-has_distance+else-is_before}
use Rattle.epx_why.proofs.walk.next_node.Goals.{else-has_distance-via-else-has_distance}

no_truth : {P : Type 0} {b : Bool} → (P → b ≡ true) → b ≡ false → ¬ P
no_truth there not_so p = let is = there p in absurd (cc (is, not_so))

pub loop-target-preserved : goal.loop-target-preserved
loop-target-preserved c =
    let g = c.args.graph.now in
    let ds = c.args.distances.now in
    let targets = c.args.targets.now in
    let i = c.loop-target.target-index in
    let n = c.args.steps in
    elim c.if-has_distance.branch [
      | then-has_distance+then-is_before w ↦ subst (AreNext g ds (take (i + 1) targets) n)
          (sym w.next-is)
          (AreNext-with ds targets i c.loop-target-test.true g n c.loop-target.next
          c.loop-target.invariant (c.has_distance.ensures.0 w.if-has_distance.true)
          (w.is_before.ensures.0 w.if-is_before.true))
      | else-has_distance w ↦ subst (AreNext g ds (take (i + 1) targets) n) (sym w.next-is)
          (AreNext-without ds targets i c.loop-target-test.true g n c.loop-target.next
          c.loop-target.invariant (elim w.else-has_distance.branch [
            | else-has_distance-via-then-has_distance+else-is_before v ↦ inr
                (no_truth v.is_before.ensures.1 v.if-is_before.false)
            | else-has_distance-via-else-has_distance v ↦ inl
                (no_truth c.has_distance.ensures.1 v.if-has_distance.false)
          ]))
    ]
