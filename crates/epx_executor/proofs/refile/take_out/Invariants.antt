use Rattle.std.proofs.Common.{take}
use Rattle.epx_executor.proofs.RefileLemmas.{AreFiledWithout}
use Rattle.epx_executor.proofs.refile.take_out.Given as goal

abbrev pub invariant-loop-id : goal.invariant-loop-id
invariant-loop-id l =
    AreFiledWithout l.fn.blockers (take l.id-index l.choice.ids.items) l.blockers

abbrev pub invariant-loop-id-2 : goal.invariant-loop-id-2
invariant-loop-id-2 l = AreFiledWithout l.fn.blockers l.choice.ids.items l.blockers

abbrev pub invariant-loop-id-3 : goal.invariant-loop-id-3
invariant-loop-id-3 l = AreFiledWithout l.fn.blockers l.choice.ids.items l.blockers
