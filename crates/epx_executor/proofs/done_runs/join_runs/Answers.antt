use Rattle.std.proofs.Common.{◌↔◌, List, subst, arith}
use Rattle.epx_types.proofs.Common.{take_all}
use Rattle.epx_executor.specs.declared.done_runs.Run.{Run}
use Rattle.epx_executor.specs.Runs.{IsInRuns}
use Rattle.epx_executor.proofs.RunLemmas.{AreJoined-more}
use Rattle.epx_executor.proofs.done_runs.join_runs.Goals as goal

pub loop-run-preserved : goal.loop-run-preserved
loop-run-preserved c =
    AreJoined-more c.args.sorted.now c.loop-run.run-index
    (record { replica = 0; first = 0; last = 0 }) c.loop-run.runs.items c.push_run.new.runs.items
    c.requires.order c.loop-run-test.true c.loop-run.invariant c.in_ok-push_run.ensures.runs
    c.in_ok-push_run.ensures.after c.in_ok-push_run.ensures.members

pub returns-clause-members : goal.returns-clause-members
returns-clause-members c = λ x.
    subst (λ (rs : List Run). IsInRuns c.loop-run.runs.items x ↔ IsInRuns rs x)
    (take_all c.loop-run.run-index c.args.sorted.now (omega arith)) (c.loop-run.invariant.members x)
