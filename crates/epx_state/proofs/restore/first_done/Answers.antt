use Rattle.std.proofs.Common.{arith}
use Rattle.epx_state.proofs.RestoreLemmas.{IsFirstAmong-at, Contains-none_further}
use Rattle.epx_state.proofs.restore.first_done.Goals as goal

pub returns-then-is_done-clause-found : goal.returns-then-is_done-clause-found
returns-then-is_done-clause-found c =
    IsFirstAmong-at c.args.executor.now.done c.args.ids.now c.loop-position.position
    (record { replica = 0; number = 0 }) c.loop-position-test.true
    (c.is_done.ensures.0 c.if-is_done.true) c.loop-position.invariant

pub loop-position-preserved : goal.loop-position-preserved
loop-position-preserved c =
    Contains-none_further c.args.executor.now.done c.args.ids.now c.loop-position.position
    (record { replica = 0; number = 0 }) c.is_done.result c.is_done.ensures c.if-is_done.false
    c.loop-position-test.true c.loop-position.invariant

pub returns-clause-none : goal.returns-clause-none
returns-clause-none c = λ k d l. c.loop-position.invariant k d (omega (arith, l)) l
