use Rattle.std.proofs.Common.{arith}
use Rattle.epx_executor.proofs.RefileLemmas.{AreWithin-next}
use Rattle.epx_executor.proofs.refile.file_blocked.Goals as goal

pub returns-then-not-file_behind-clause-within : goal.returns-then-not-file_behind-clause-within
returns-then-not-file_behind-clause-within c = λ m all within.
    AreWithin-next m c.loop-id.blockers c.file_behind.new.blockers c.args.blocked.now
    c.loop-id.id-index _ (omega arith) all (c.loop-id.invariant.1 m all within)
    c.file_behind.ensures.new

pub loop-id-preserved : goal.loop-id-preserved
loop-id-preserved c = (
  λ x y h. c.file_behind.ensures.stay x y (c.loop-id.invariant.0 x y h),
  λ m all within. AreWithin-next m c.loop-id.blockers c.file_behind.new.blockers c.args.blocked.now
      c.loop-id.id-index _ (omega arith) all (c.loop-id.invariant.1 m all within)
      c.file_behind.ensures.new,
)
