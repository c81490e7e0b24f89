-- The depth of a node: the length of its longest descent through components.
use Rattle.std.specs.Prelude.{◌≡◌, ℕ, ◌≤◌, List, [], ◌∷◌, length}
use Rattle.epx_graph.specs.NodePaths.{NodeReaches}

-- a chain that begins at k, in which each reaches the next and is not reached by it
abbrev pub NodeDescends : (ℕ → List ℕ) → ℕ → List ℕ → Type 0
NodeDescends edges k [] = Unit {0}
NodeDescends edges k (c ∷ cs) = NodeReaches edges k c × ¬ NodeReaches edges c k
    × NodeDescends edges c cs

-- the depth of node k: the greatest number of steps of a chain from it in which each reaches the
-- next and is not reached by it
pub record IsNodeDepth (edges : ℕ → List ℕ) (k depth : ℕ) : Type 0 where
  pub descent : (cs : List ℕ) × NodeDescends edges k cs × (length cs ≡ depth)
  pub longest : (cs : List ℕ) → NodeDescends edges k cs → length cs ≤ depth
