-- Consecutive pieces of lines.
use Rattle.std.specs.Prelude.{◌≡◌, ◌*◌, ◌++◌, ◌∷◌, ℕ, List, [], take, drop}
use Rattle.epx_merge.specs.LogLines.{MeaningAt}

-- the lines of this piece, if the lines are cut into pieces of `cut` lines; pieces count from 0
abbrev pub lines_of_piece : ℕ → ℕ → List MeaningAt → List MeaningAt
lines_of_piece cut piece lines = take cut (drop (piece * cut) lines)

-- the lines can be cut into consecutive pieces, one for each item of the list, so that `is` holds
-- of each piece and its item
abbrev pub ArePiecesOf : {P : Type 0} → (List MeaningAt → P → Type 0) → List MeaningAt → List P
    → Type 0
ArePiecesOf is lines [] = lines ≡ []
ArePiecesOf is lines (piece ∷ pieces) = (here rest : List MeaningAt) × (lines ≡ here ++ rest)
    × is here piece × ArePiecesOf is rest pieces
