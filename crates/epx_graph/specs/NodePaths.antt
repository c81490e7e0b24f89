-- Paths over nodes. A graph is a function from each node to the targets of its edges.
use Rattle.std.specs.Prelude.{◌≡◌, ℕ, List, [], ◌∷◌, Contains}

-- the list has the nodes of a path from k to j, without k: each has an edge from the one before. If
-- it is empty, k is j
abbrev pub IsNodePath : (ℕ → List ℕ) → ℕ → List ℕ → ℕ → Type 0
IsNodePath edges k [] j = k ≡ j
IsNodePath edges k (c ∷ cs) j = Contains (edges k) c × IsNodePath edges c cs j

-- j is k, or a path of edges leads from k to j
abbrev pub NodeReaches : (ℕ → List ℕ) → ℕ → ℕ → Type 0
NodeReaches edges k j = (cs : List ℕ) × IsNodePath edges k cs j
