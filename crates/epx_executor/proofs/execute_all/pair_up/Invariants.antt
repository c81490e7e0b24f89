use Rattle.std.proofs.Common.{zip}
use Rattle.epx_executor.proofs.PairLemmas.{ArePairedUpTo}
use Rattle.epx_executor.proofs.execute_all.pair_up.Given as goal

abbrev pub invariant-loop-id : goal.invariant-loop-id
invariant-loop-id l =
    ArePairedUpTo l.id-iterator.a.rest.now l.id-iterator.b.rest.items l.pairs.items
    (zip l.fn.ids l.fn.replies.items)
