use Rattle.std.proofs.Common.{subst}
use Rattle.epx_executor.specs.inner.Choices.{AgreesWith}
use Rattle.epx_executor.proofs.ChoiceLemmas.{take-each_at_end, take-each_more}
use Rattle.epx_executor.proofs.choose.agree.Goals as goal

pub loop-entry-preserved : goal.loop-entry-preserved
loop-entry-preserved c =
    let P = AgreesWith c.args.done.now c.args.pending.now in
    take-each_more P c.args.came.now c.loop-entry.entry-index c.entry-item.result
    c.loop-entry-test.true c.loop-entry.invariant
    (subst P c.entry-item.is (c.agrees.ensures c.if-not-agrees.false))

pub returns : goal.returns
returns c = λ _. take-each_at_end (AgreesWith c.args.done.now c.args.pending.now) c.args.came.now
    c.loop-entry.entry-index c.loop-entry-test.false c.loop-entry.invariant
