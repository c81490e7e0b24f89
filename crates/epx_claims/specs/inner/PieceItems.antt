-- The items of one piece of a list.
use Rattle.std.specs.Prelude.{ℕ, List, length, slice_range}
use Rattle.epx_types.specs.Pieces.{piece_start, piece_end}

-- the items of one of the pieces into which a list is cut
abbrev pub items_of_piece : {X : Type 0} → ℕ → List X → ℕ → List X
items_of_piece cut items piece =
    slice_range items (piece_start cut piece) (piece_end cut (length items) piece)
