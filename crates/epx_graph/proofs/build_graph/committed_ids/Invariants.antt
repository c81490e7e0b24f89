use Rattle.std.proofs.Common.{◌≡◌, take}
use Rattle.epx_types.proofs.Common.{ids_of}
use Rattle.epx_graph.specs.inner.Remainder.{rest_of}
use Rattle.epx_graph.proofs.build_graph.committed_ids.Given as goal

abbrev pub invariant-loop-index : goal.invariant-loop-index
invariant-loop-index l = l.ids.items ≡ ids_of (take l.index (rest_of l.left))
