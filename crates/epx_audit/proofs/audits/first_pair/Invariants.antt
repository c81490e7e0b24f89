use Rattle.std.proofs.Common.{◌≡◌, List, map}
use Rattle.epx_types.proofs.Common.{Instance}
use Rattle.epx_graph.proofs.Common.{edges_of}
use Rattle.epx_audit.specs.inner.DoubtfulKeys.{HoldAllConflicts}
use Rattle.epx_audit.specs.inner.NodeConflicts.{keys_of}
use Rattle.epx_audit.specs.inner.Sources.{AreSettled}
use Rattle.epx_audit.proofs.audits.first_pair.Given as goal

abbrev pub invariant-loop-bit : goal.invariant-loop-bit
invariant-loop-bit l = (m : List Instance) → l.keys ≡ map keys_of m
    → HoldAllConflicts m (edges_of l.graph) l.ready l.doubtful.touches.items
    → AreSettled m (edges_of l.graph) l.ready l.sources l.bit
