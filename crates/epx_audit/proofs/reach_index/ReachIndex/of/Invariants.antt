use Rattle.epx_graph.proofs.Common.{edges_of}
use Rattle.epx_audit.specs.inner.ReachIndexes.{IsChain}
use Rattle.epx_audit.proofs.ReachIndexLemmas.{AreChains}
use Rattle.epx_audit.proofs.reach_index.ReachIndex.of.Given as goal

abbrev pub invariant-loop-position : goal.invariant-loop-position
invariant-loop-position l = record {
  chain : IsChain (edges_of l.graph) l.nodes.items l.position l.chain;
  chains : AreChains l.graph l.nodes.items l.starts.items l.positions.items l.chain_start.items
      l.position;
}
