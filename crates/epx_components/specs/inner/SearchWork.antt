-- How much a search has left to do: it falls with each step.
use Rattle.std.specs.Prelude.{ℕ, ◌+◌, ◌-◌, ◌*◌, List, [], ◌∷◌, length}
use Rattle.epx_components.specs.inner.SearchStates.{SearchState}

-- how many edges have not been looked at
abbrev pub edges_left : List (List ℕ) → List ℕ → ℕ
edges_left [] looked_at = 0
edges_left (row ∷ rows) [] = 0
edges_left (row ∷ rows) (n ∷ looked_at) = (length row - n) + edges_left rows looked_at

-- an edge leads to at most one new node, which is added to the path and to the starts
abbrev pub work_left : List (List ℕ) → SearchState → ℕ
work_left rows s = 3 * edges_left rows s.looked_at + length s.path + length s.starts
