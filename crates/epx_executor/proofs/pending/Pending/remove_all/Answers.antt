use Rattle.std.proofs.Common.{arith}
use Rattle.epx_executor.proofs.PendingLemmas.{AreWithout-all, AreWithout-next}
use Rattle.epx_executor.proofs.pending.Pending.remove_all.Goals as goal

pub loop-id-preserved : goal.loop-id-preserved
loop-id-preserved c = (
  AreWithout-next c.args.self.now c.loop-id.self c.remove.new.self c.args.ids.now c.loop-id.id-index
      _ (omega arith) c.loop-id.invariant.0 c.remove.ensures.left,
  c.remove.ensures.rising,
)

pub returns-clause-left : goal.returns-clause-left
returns-clause-left c =
    AreWithout-all c.args.self.now c.loop-id.self c.args.ids.now c.loop-id.id-index (omega arith)
    c.loop-id.invariant.0
