use Rattle.std.proofs.Common.{take, Contains}
use Rattle.epx_types.proofs.Common.{Instance}
use Rattle.epx_executor.specs.inner.Choices.{AgreesWith}
use Rattle.epx_executor.proofs.choose.agree.Given as goal

abbrev pub invariant-loop-entry : goal.invariant-loop-entry
invariant-loop-entry l = (e : Instance) → Contains (take l.entry-index l.came) e
    → AgreesWith l.done l.pending e
