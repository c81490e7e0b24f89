use Rattle.std.proofs.Common.{◌≡◌, ℕ, ◌<◌, List, length, map, get_or}
use Rattle.epx_types.proofs.Common.{Instance}
use Rattle.epx_graph.proofs.Common.{DependencyGraph, edges_of}
use Rattle.epx_components.specs.between.Partitions.{parts}
use Rattle.epx_audit.specs.declared.doubtful_touches.DoubtfulTouch.{DoubtfulTouch}
use Rattle.epx_audit.specs.inner.Batches.{IsBatch}
use Rattle.epx_audit.specs.inner.DoubtfulKeys.{HoldAllConflicts}
use Rattle.epx_audit.specs.inner.NodeConflicts.{keys_of, IsSettled}
use Rattle.epx_audit.proofs.audits.first_partner.Given as goal

abbrev pub invariant-loop-other : goal.invariant-loop-other
invariant-loop-other l = (m : List Instance) (g : DependencyGraph) (touches : List DoubtfulTouch)
    (sources : List ℕ) → l.keys ≡ map keys_of m → HoldAllConflicts m (edges_of g) l.ready touches
    → IsBatch g (parts l.partition) touches sources l.batch → l.bit < length sources
    → get_or sources l.bit 0 ≡ l.source → (j : ℕ) → l.source < j → j < l.other
    → IsSettled m (edges_of g) l.ready l.source j
