use Rattle.std.proofs.Common.{List}
use Rattle.epx_types.proofs.Common.{remaining}
use Rattle.epx_types.specs.declared.id.Id.{Id}
use Rattle.epx_graph.proofs.Common.{IsGraphOf}
use Rattle.epx_ranking.proofs.ReadyRankLemmas.{AreGathered}
use Rattle.epx_ranking.proofs.ready.ready_ranks.Given as goal

abbrev pub invariant-loop-node : goal.invariant-loop-node
invariant-loop-node l = (done : List Id) → IsGraphOf (remaining done l.merged) l.graph
    → AreGathered (remaining done l.merged) l.graph l.node l.ranks.items
