use Rattle.epx_audit.proofs.PairMarkLemmas.{AreNextSources}
use Rattle.epx_audit.proofs.pair_marks.next_sources.Given as goal

abbrev pub invariant-loop-index : goal.invariant-loop-index
invariant-loop-index l = AreNextSources l.left l.start l.sources.items
