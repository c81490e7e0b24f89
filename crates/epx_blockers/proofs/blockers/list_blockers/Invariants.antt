use Rattle.std.proofs.Common.{◌≡◌, map, take, Contains}
use Rattle.epx_graph.proofs.Common.{missing_ids}
use Rattle.epx_blockers.specs.declared.blocker.Blocker.{Blocker}
use Rattle.epx_blockers.specs.inner.NodeBlockers.{IsNodeBlocker}
use Rattle.epx_blockers.proofs.blockers.list_blockers.Given as goal

abbrev pub invariant-loop-index : goal.invariant-loop-index
invariant-loop-index l = record {
  ids : map (λ b. b.id) l.blockers.items ≡ take l.index (missing_ids l.graph);
  each : (b : Blocker) → Contains l.blockers.items b → IsNodeBlocker l.graph b;
}
