use Rattle.std.proofs.Common.{slice_range}
use Rattle.epx_graph.specs.inner.Remainder.{rest_of}
use Rattle.epx_graph.specs.inner.Nodes.{IsGatheredOf, first_of_piece}
use Rattle.epx_graph.proofs.dependency_rows.gather_piece.Given as goal

abbrev pub invariant-loop-index : goal.invariant-loop-index
invariant-loop-index l =
    let pieces = l.fn.pieces in
    let first = first_of_piece pieces.size pieces.instances l.fn.piece in
    IsGatheredOf (rest_of l.left) (slice_range (rest_of l.left) first l.index) l.rows
    l.missing.items
