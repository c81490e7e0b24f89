use Rattle.std.proofs.Common.{◌≡◌, ◌++◌, flat_map}
use Rattle.epx_graph.proofs.dependency_rows.join_pieces.Given as goal

-- what was gathered so far and of the pieces that follow
abbrev pub invariant-loop-piece : goal.invariant-loop-piece
invariant-loop-piece l = record {
  rows : l.gathered.rows ++ flat_map (λ piece. piece.rows) l.piece-iterator.rest.items
      ≡ flat_map (λ piece. piece.rows) l.fn.pieces.items;
  missing : l.gathered.missing.items
      ++ flat_map (λ piece. piece.missing.items) l.piece-iterator.rest.items
      ≡ flat_map (λ piece. piece.missing.items) l.fn.pieces.items;
}
