-- The search level by level for the nodes within some steps of a node, along edges and against
-- them. A level has the nodes that were marked in one step.
use Rattle.std.specs.Prelude.{◌≡◌, ◌⊎◌, ◌↔◌, ℕ, zero, suc, Bool, false, List, length, Contains}
use Rattle.std.specs.Prelude.{IsTrue, slice_index_or}
use Rattle.epx_graph.specs.Graphs.{DependencyGraph, edges_of}

-- an edge leads from k to j, or from j to k
abbrev pub IsNodeStep : DependencyGraph → ℕ → ℕ → Type 0
IsNodeStep g k j = Contains (edges_of g k) j ⊎ Contains (edges_of g j) k

-- n steps or fewer lead from k to j
abbrev pub IsNodeWithin : DependencyGraph → ℕ → ℕ → ℕ → Type 0
IsNodeWithin g zero k j = k ≡ j
IsNodeWithin g (suc n) k j = IsNodeWithin g n k j
    ⊎ ((i : ℕ) × IsNodeWithin g n k i × IsNodeStep g i j)

-- node k is marked; past the end of the marks no node is
abbrev pub HasMark : List Bool → ℕ → Type 0
HasMark marks k = IsTrue (slice_index_or marks k false)

-- exactly the nodes within n steps of k are marked
pub record AreMarksWithin (g : DependencyGraph) (n k : ℕ) (marks : List Bool) : Type 0 where
  pub nodes : length marks ≡ length g.ids
  pub exact : (j : ℕ) → HasMark marks j ↔ IsNodeWithin g n k j

-- the marks, and the nodes of a level
pub record MarkedLevel : Type 0 where
  pub marks : List Bool
  pub level : List ℕ

-- the nodes with the property are marked, and those that had no mark join the level
pub record MarksMore (P : ℕ → Type 0) (old new : MarkedLevel) : Type 0 where
  pub nodes : length new.marks ≡ length old.marks
  pub marked : (k : ℕ) → HasMark new.marks k ↔ (HasMark old.marks k ⊎ P k)
  pub joined : (k : ℕ) → HasMark new.marks k → HasMark old.marks k ⊎ Contains new.level k
  pub stays : (k : ℕ) → Contains old.level k → Contains new.level k
  pub from : (k : ℕ) → Contains new.level k → Contains old.level k ⊎ P k

-- a step leads from a node of the level to j
abbrev pub IsNextTo : DependencyGraph → List ℕ → ℕ → Type 0
IsNextTo g level j = (k : ℕ) × Contains level k × IsNodeStep g k j

-- the search after n levels: if a node is marked, then it is in the level, or all nodes one step
-- away are marked
pub record IsSearched (g : DependencyGraph) (n k : ℕ) (s : MarkedLevel) : Type 0 where
  pub within : AreMarksWithin g n k s.marks
  pub level : (j : ℕ) → Contains s.level j → HasMark s.marks j
  pub closed : (j i : ℕ) → HasMark s.marks j → IsNodeStep g j i
      → HasMark s.marks i ⊎ Contains s.level j
