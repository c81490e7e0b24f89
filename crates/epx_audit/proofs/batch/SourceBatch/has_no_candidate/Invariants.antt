use Rattle.std.proofs.Common.{ℕ, ◌<◌, List, length, get_or}
use Rattle.epx_graph.proofs.Common.{DependencyGraph, edges_of}
use Rattle.epx_components.specs.between.Partitions.{parts}
use Rattle.epx_audit.specs.declared.doubtful_touches.DoubtfulTouch.{DoubtfulTouch}
use Rattle.epx_audit.specs.inner.Batches.{IsBatch}
use Rattle.epx_audit.specs.inner.DoubtfulKeys.{IsRelatedOrFree}
use Rattle.epx_audit.proofs.batch.SourceBatch.has_no_candidate.Given as goal

abbrev pub invariant-loop-node : goal.invariant-loop-node
invariant-loop-node l = (g : DependencyGraph) (touches : List DoubtfulTouch) (sources : List ℕ)
    (b j : ℕ) → IsBatch g (parts l.partition) touches sources l.self → b < length sources
    → j < l.node → IsRelatedOrFree (edges_of g) l.ready touches (get_or sources b 0) j
