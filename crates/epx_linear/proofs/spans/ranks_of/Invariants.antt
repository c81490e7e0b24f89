use Rattle.epx_linear.proofs.SpanRankLemmas.{AreNoted}
use Rattle.epx_linear.proofs.spans.ranks_of.Given as goal

abbrev pub invariant-loop-index : goal.invariant-loop-index
invariant-loop-index l = AreNoted l.spans l.index l.ranks.items
