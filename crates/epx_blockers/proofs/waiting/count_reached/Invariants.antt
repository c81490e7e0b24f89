use Rattle.epx_blockers.specs.declared.reached.Reached.TheVariants.{Several}
use Rattle.epx_blockers.specs.inner.NodeCounts.{AreMissingCounts, IsNodeCount}
use Rattle.epx_blockers.specs.inner.ReachedNodes.{IsOnlyReached, IsReached}
use Rattle.epx_blockers.proofs.waiting.count_reached.Given as goal

abbrev pub invariant-loop-node : goal.invariant-loop-node
invariant-loop-node l = record {
  alone : AreMissingCounts l.graph (IsOnlyReached l.graph) l.node l.alone.items;
  several : IsNodeCount (λ k. IsReached l.graph k Several) l.node l.several;
}
