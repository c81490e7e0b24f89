use Rattle.std.proofs.Common.{◌≡◌, ◌*◌, List, length, map, min}
use Rattle.epx_types.proofs.Common.{Instance}
use Rattle.epx_graph.proofs.Common.{edges_of}
use Rattle.epx_audit.specs.inner.DoubtfulKeys.{HoldAllConflicts}
use Rattle.epx_audit.specs.inner.NodeConflicts.{keys_of}
use Rattle.epx_audit.specs.inner.Sources.{AreSettled}
use Rattle.epx_audit.proofs.audits.find_pair.Given as goal

abbrev pub invariant-loop-number : goal.invariant-loop-number
invariant-loop-number l = (m : List Instance) → l.keys ≡ map keys_of m
    → HoldAllConflicts m (edges_of l.graph) l.ready l.doubtful.touches.items
    → AreSettled m (edges_of l.graph) l.ready l.sources.items
    (min (length l.sources.items) (l.number * 64))
