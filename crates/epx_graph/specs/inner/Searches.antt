-- The search level by level, from one start after another. A level has the nodes that were marked
-- in one step.
use Rattle.std.specs.Prelude.{◌≡◌, ◌⊎◌, ℕ, zero, suc, ◌+◌, ◌<◌, ◌≤◌, List, length, Contains, Option}
use Rattle.std.specs.Prelude.{Some, None, not, is_some, count_by, slice_index_or}
use Rattle.epx_rows.specs.between.Rows.{row_of}
use Rattle.epx_graph.specs.declared.search.MarkKind.{MarkKind}
use Rattle.epx_graph.specs.declared.search.MarkKind.TheVariants as kind

-- a path of n edges leads from s to k: the edges before the last one, and that edge
abbrev pub LeadsIn : (ℕ → List ℕ) → ℕ → ℕ → ℕ → Type 0
LeadsIn edges s zero k = s ≡ k
LeadsIn edges s (suc n) k = (p : ℕ) × LeadsIn edges s n p × Contains (edges p) k

-- what a node is marked with that is this number of steps from a start
abbrev pub mark_by : MarkKind → ℕ → ℕ → ℕ
mark_by kind.Start start steps = start
mark_by kind.Steps start steps = steps

-- the mark of a node, if it has one
abbrev pub node_mark : List (Option ℕ) → ℕ → Option ℕ
node_mark marks k = slice_index_or marks k None

-- node k has a mark: the search has found it
abbrev pub IsMarked : List (Option ℕ) → ℕ → Type 0
IsMarked marks k = (m : ℕ) × (node_mark marks k ≡ Some m)

-- the marks, and the nodes of a level
pub record SearchView : Type 0 where
  pub marks : List (Option ℕ)
  pub level : List ℕ

-- how much is left to do: it falls with each level
abbrev pub left_to_do : SearchView → ℕ
left_to_do s = length s.level + count_by (λ mark. not (is_some mark)) s.marks

-- the targets without a mark get this one, and join the level
pub record IsVisit (targets : List ℕ) (mark : ℕ) (old new : SearchView) : Type 0 where
  pub len : length new.marks ≡ length old.marks
  pub kept : (k m : ℕ) → node_mark old.marks k ≡ Some m → node_mark new.marks k ≡ Some m
  pub marked : (k m : ℕ) → node_mark new.marks k ≡ Some m → (node_mark old.marks k ≡ Some m)
      ⊎ ((node_mark old.marks k ≡ None) × Contains targets k × (m ≡ mark) × Contains new.level k)
  pub all : (k : ℕ) → Contains targets k → IsMarked new.marks k
  pub stays : (k : ℕ) → Contains old.level k → Contains new.level k
  pub from : (k : ℕ) → Contains new.level k → Contains old.level k ⊎ Contains targets k
  pub same_work : left_to_do new ≡ left_to_do old

-- k had no mark, and got the one for the fewest steps from the start
pub record IsNewMark (rows : List (List ℕ)) (start : ℕ) (mark : ℕ → ℕ)
    (before : List (Option ℕ)) (k m : ℕ) : Type 0 where
  pub steps : ℕ
  pub none : node_mark before k ≡ None
  pub leads : LeadsIn (row_of rows) start steps k
  pub is : m ≡ mark steps
  pub fewest : (i : ℕ) → LeadsIn (row_of rows) start i k → steps ≤ i

-- the search from one start, after n levels. The level is n steps away. If a node is marked, then
-- it is in the level, or all targets of its edges are marked
pub record IsLevelSearch (rows : List (List ℕ)) (start : ℕ) (mark : ℕ → ℕ)
    (before : List (Option ℕ)) (n : ℕ) (s : SearchView) : Type 0 where
  pub len : length s.marks ≡ length before
  pub kept : (k m : ℕ) → node_mark before k ≡ Some m → node_mark s.marks k ≡ Some m
  pub new : (k m : ℕ) → node_mark s.marks k ≡ Some m → (node_mark before k ≡ Some m)
      ⊎ IsNewMark rows start mark before k m
  pub found : (k i : ℕ) → i ≤ n → LeadsIn (row_of rows) start i k → IsMarked s.marks k
  pub level : (k : ℕ) → Contains s.level k → LeadsIn (row_of rows) start n k
  pub closed : (k j : ℕ) → IsMarked s.marks k → Contains (row_of rows k) j
      → Contains s.level k ⊎ IsMarked s.marks j
  pub few : n + left_to_do s ≤ length before

-- the targets of marked nodes are marked
abbrev pub AreClosed : List (List ℕ) → List (Option ℕ) → Type 0
AreClosed rows marks = (k j : ℕ) → IsMarked marks k → Contains (row_of rows k) j → IsMarked marks j

-- the search from one start: the nodes without a mark that it leads to are marked
pub record IsSearchFrom (rows : List (List ℕ)) (start : ℕ) (mark : ℕ → ℕ)
    (before after : List (Option ℕ)) : Type 0 where
  pub len : length after ≡ length before
  pub kept : (k m : ℕ) → node_mark before k ≡ Some m → node_mark after k ≡ Some m
  pub new : (k m : ℕ) → node_mark after k ≡ Some m → (node_mark before k ≡ Some m)
      ⊎ IsNewMark rows start mark before k m
  pub all : (k i : ℕ) → LeadsIn (row_of rows) start i k → IsMarked after k

-- the mark of k is for the first of the starts from `first` to `end` that lead to it, and for the
-- fewest steps from there
pub record IsFirstMark (rows : List (List ℕ)) (mark : ℕ → ℕ → ℕ) (first end k m : ℕ) : Type
    0 where
  pub start : ℕ
  pub steps : ℕ
  pub after : first ≤ start
  pub before : start < end
  pub leads : LeadsIn (row_of rows) start steps k
  pub is : m ≡ mark start steps
  pub earliest : (s i : ℕ) → first ≤ s → s < start → ¬ LeadsIn (row_of rows) s i k
  pub fewest : (i : ℕ) → LeadsIn (row_of rows) start i k → steps ≤ i

-- the marks of all nodes, after the searches from `first` to `end`; no start leads to a node
-- without a mark
pub record AreFirstMarks (rows : List (List ℕ)) (mark : ℕ → ℕ → ℕ) (first end count : ℕ)
    (marks : List (Option ℕ)) : Type 0 where
  pub nodes : length marks ≡ count
  pub marked : (k m : ℕ) → node_mark marks k ≡ Some m → IsFirstMark rows mark first end k m
  pub unmarked : (k s i : ℕ) → node_mark marks k ≡ None → first ≤ s → s < end
      → ¬ LeadsIn (row_of rows) s i k
