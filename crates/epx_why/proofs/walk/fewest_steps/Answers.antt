use Rattle.std.proofs.Common.{List, ℕ, subst, arith}
use Rattle.epx_types.proofs.Common.{take_all}
use Rattle.epx_why.specs.inner.NodeWalks.{AreFewest}
use Rattle.epx_why.proofs.TargetLemmas.{AreFewest-without, AreFewest-with}
use Rattle.epx_why.proofs.walk.fewest_steps.Goals as goal

pub loop-target-preserved-in_default : goal.loop-target-preserved-in_default
loop-target-preserved-in_default c =
    AreFewest-without c.args.distances.now c.args.targets.now c.loop-target.target-index
    c.loop-target-test.true c.loop-target.fewest c.in_default.is c.loop-target.invariant

pub loop-target-preserved : goal.loop-target-preserved
loop-target-preserved c =
    AreFewest-with c.args.distances.now c.args.targets.now c.loop-target.target-index
    c.loop-target-test.true c.in-Some.steps c.loop-target.fewest c.min_steps.result c.in-Some.is
    c.min_steps.ensures c.loop-target.invariant

pub returns : goal.returns
returns c =
    subst (λ (xs : List ℕ). AreFewest c.args.distances.now xs c.loop-target.fewest)
    (take_all c.loop-target.target-index c.args.targets.now (omega arith)) c.loop-target.invariant
