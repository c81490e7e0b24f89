-- Marks of pairs of positions whose nodes are related.
use Rattle.std.specs.Prelude.{◌≡◌, ◌↔◌, ◌⊎◌, ℕ, ◌<◌, List, Bool, length, slice_index}
use Rattle.std.specs.Prelude.{slice_index_or, Contains, IsTrue}
use Rattle.epx_graph.specs.NodePaths.{NodeReaches}
use Rattle.epx_components.specs.between.ReadyMarks.{is_marked}
use Rattle.epx_audit.specs.declared.pair_marks.LeftPair.{LeftPair}

-- the pair at an index of a list; (0, 0) past its end
abbrev pub pair_at : List (ℕ × ℕ) → ℕ → ℕ × ℕ
pair_at pairs i = slice_index_or pairs i (0, 0)

-- the mark of pair i says whether the node at its first position reaches the one at its second
abbrev pub IsExact : (ℕ → List ℕ) → List ℕ → List (ℕ × ℕ) → List Bool → ℕ → Type 0
IsExact edges nodes pairs marks i = IsTrue (is_marked marks i)
    ↔ NodeReaches edges (slice_index nodes (pair_at pairs i).0)
    (slice_index nodes (pair_at pairs i).1)

-- each pair has a mark, which is set exactly if the node at its first position reaches the one at
-- its second position
pub record AreExactMarks (edges : ℕ → List ℕ) (nodes : List ℕ) (pairs : List (ℕ × ℕ))
    (marks : List Bool) : Type 0 where
  pub each_pair : length marks ≡ length pairs
  pub exact : (i : ℕ) → i < length pairs → IsExact edges nodes pairs marks i

-- the pair at an index of a list of those that are left to passes over the graph; zeros past its
-- end
abbrev pub left_at : List LeftPair → ℕ → LeftPair
left_at left i = slice_index_or left i (record { from = 0; to = 0; index = 0 })

-- the nodes at the positions of one of the pairs
pub record IsLeftPair (nodes : List ℕ) (pairs : List (ℕ × ℕ)) (left : LeftPair) : Type 0 where
  pub within : left.index < length pairs
  pub from : left.from ≡ slice_index nodes (pair_at pairs left.index).0
  pub to : left.to ≡ slice_index nodes (pair_at pairs left.index).1

-- the marks of all pairs but those left are exact
pub record AreExactBut (edges : ℕ → List ℕ) (nodes : List ℕ) (pairs : List (ℕ × ℕ))
    (left : List LeftPair) (marks : List Bool) : Type 0 where
  pub each_pair : length marks ≡ length pairs
  pub each_left : (o : LeftPair) → Contains left o → IsLeftPair nodes pairs o
  pub exact : (i : ℕ) → i < length pairs → IsExact edges nodes pairs marks i
      ⊎ ((o : LeftPair) × Contains left o × (o.index ≡ i))
