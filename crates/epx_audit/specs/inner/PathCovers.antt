-- Covers of an order by paths, each with the rows of its components.
use Rattle.std.specs.Prelude.{◌≡◌, ◌⊎◌, ℕ, ◌<◌, ◌≤◌, List, length, slice_index, slice_index_or}
use Rattle.std.specs.Prelude.{Contains, Option, Some, None, slice_set}
use Rattle.epx_graph.specs.Graphs.{DependencyGraph, edges_of}
use Rattle.epx_graph.specs.NodePaths.{NodeReaches}
use Rattle.epx_audit.specs.declared.path_cover.PathCover.{PathCover}
use Rattle.epx_audit.specs.declared.path_cover.PathMember.{PathMember}

-- the model of a cover: what it has at each position, and the entries of all rows
pub record CoverLists : Type 0 where
  pub members : List PathMember
  pub row_paths : List ℕ
  pub row_positions : List ℕ

-- what contracts see of a cover in memory: its members, and the entries of their rows
abbrev pub lists_of : PathCover → CoverLists
lists_of cover = record {
  members = cover.members.items;
  row_paths = cover.row_paths.items;
  row_positions = cover.row_positions.items;
}

-- what a list of members has at a position
abbrev pub member_at : List PathMember → ℕ → PathMember
member_at members p =
    slice_index_or members p (record { start = 0; path = 0; row_start = 0; row_end = 0 })

-- the path of the component at a position
abbrev pub path_at : PathCover → ℕ → ℕ
path_at cover p = (member_at cover.members.items p).path

-- the entry at this index is in the row of the member
abbrev pub IsInRow : PathMember → ℕ → Type 0
IsInRow member i = (member.row_start ≤ i) × (i < member.row_end)

-- the row of the member has this entry
abbrev pub IsEntry : CoverLists → PathMember → ℕ → ℕ → Type 0
IsEntry c member path e = (i : ℕ) × IsInRow member i × (slice_index c.row_paths i ≡ path)
    × (slice_index c.row_positions i ≡ e)

-- the row of the member has a position from d on, on this path
abbrev pub RowHas : CoverLists → PathMember → ℕ → ℕ → Type 0
RowHas c member path d = (i : ℕ) × IsInRow member i × (slice_index c.row_paths i ≡ path)
    × (d ≤ slice_index c.row_positions i)

-- the positions that have members are covered
pub record AreCovered (edges : ℕ → List ℕ) (nodes : List ℕ) (c : CoverLists) : Type 0 where
  pub entries : length c.row_positions ≡ length c.row_paths
  pub rows : (p : ℕ) → p < length c.members
      → ((member_at c.members p).row_start ≤ (member_at c.members p).row_end)
      × ((member_at c.members p).row_end ≤ length c.row_paths)
  -- a component has one path, and its nodes reach each other
  pub starts : (p : ℕ) → p < length c.members → ((member_at c.members p).start ≤ p)
      × NodeReaches edges (slice_index nodes p) (slice_index nodes (member_at c.members p).start)
      × NodeReaches edges (slice_index nodes (member_at c.members p).start) (slice_index nodes p)
      × ((member_at c.members (member_at c.members p).start).path ≡ (member_at c.members p).path)
  -- on a path each node reaches the earlier ones; a path has the number of its first position
  pub paths : (p q : ℕ) → p ≤ q → q < length c.members
      → (member_at c.members p).path ≡ (member_at c.members q).path
      → NodeReaches edges (slice_index nodes q) (slice_index nodes p)
  pub numbers : (p : ℕ) → p < length c.members → (member_at c.members p).path ≤ p
  -- an entry is a position on its path that is reached
  pub reached : (p i : ℕ) → p < length c.members → IsInRow (member_at c.members p) i
      → (slice_index c.row_positions i < length c.members)
      × ((member_at c.members (slice_index c.row_positions i)).path ≡ slice_index c.row_paths i)
      × NodeReaches edges (slice_index nodes p)
      (slice_index nodes (slice_index c.row_positions i))
  -- a row is sorted by path, and has one position for each path
  pub rising : (p i j : ℕ) → p < length c.members → IsInRow (member_at c.members p) i
      → IsInRow (member_at c.members p) j → i ≤ j
      → slice_index c.row_paths i ≤ slice_index c.row_paths j
  pub one : (p i j : ℕ) → p < length c.members → IsInRow (member_at c.members p) i
      → IsInRow (member_at c.members p) j
      → slice_index c.row_paths i ≡ slice_index c.row_paths j
      → slice_index c.row_positions i ≡ slice_index c.row_positions j
  -- a row has its own component, and what the rows have that the edges lead to
  pub own : (p : ℕ) → p < length c.members
      → RowHas c (member_at c.members p) (member_at c.members p).path
      (member_at c.members p).start
  pub closed : (p t : ℕ) → p < length c.members → Contains (edges (slice_index nodes p)) t
      → (q : ℕ) × (q < length c.members) × (slice_index nodes q ≡ t)
      × ((path d : ℕ) → RowHas c (member_at c.members q) path d
      → RowHas c (member_at c.members p) path d)

-- a cover of all positions of an order that has no node twice
pub record IsPathCover (g : DependencyGraph) (nodes : List ℕ) (cover : PathCover) : Type 0 where
  pub whole : length cover.members.items ≡ length nodes
  pub once : (p q : ℕ) → p < length nodes → q < length nodes
      → slice_index nodes p ≡ slice_index nodes q → p ≡ q
  pub covered : AreCovered (edges_of g) nodes (lists_of cover)

-- the greatest position on a path that a row has while it is merged
abbrev pub greatest_on : List (Option ℕ) → ℕ → Option ℕ
greatest_on greatest path = slice_index_or greatest path None

-- a position from d on is noted for a path
abbrev pub IsNotedFrom : List (Option ℕ) → ℕ → ℕ → Type 0
IsNotedFrom greatest path d = (e : ℕ) × (greatest_on greatest path ≡ Some e) × (d ≤ e)

-- the positions that are noted on paths, after some more are added
pub record AddsTo (old new : List (Option ℕ)) (Added : ℕ → ℕ → Type 0) : Type 0 where
  pub len : length new ≡ length old
  pub only : (path e : ℕ) → greatest_on new path ≡ Some e
      → (greatest_on old path ≡ Some e) ⊎ Added path e
  pub keeps : (path d : ℕ) → IsNotedFrom old path d → IsNotedFrom new path d
  pub adds : (path e : ℕ) → Added path e → IsNotedFrom new path e

-- the paths are those for which a position is noted
pub record AreNotedPaths (greatest : List (Option ℕ)) (paths : List ℕ) : Type 0 where
  pub all : (path e : ℕ) → greatest_on greatest path ≡ Some e → Contains paths path
  pub only : (path : ℕ) → Contains paths path → (e : ℕ) × (greatest_on greatest path ≡ Some e)

-- the row at a position has this entry
abbrev pub IsEntryAt : CoverLists → ℕ → ℕ → ℕ → Type 0
IsEntryAt c position path e = (position < length c.members)
    × IsEntry c (member_at c.members position) path e

-- an entry of the row at the position of one of the first n targets
abbrev pub IsTargetEntry : CoverLists → List ℕ → List ℕ → ℕ → ℕ → ℕ → Type 0
IsTargetEntry c positions targets n path e = (i : ℕ) × (i < n)
    × IsEntryAt c (slice_index positions (slice_index targets i)) path e

-- an entry of a row that an edge of the next component leads to. The nodes of that component are
-- at the positions that have no member yet, up to an end
abbrev pub IsMemberEntry : (ℕ → List ℕ) → List ℕ → CoverLists → List ℕ → ℕ → ℕ → ℕ → Type 0
IsMemberEntry edges nodes c positions end path e = (p : ℕ) × (length c.members ≤ p) × (p < end)
    × IsTargetEntry c positions (edges (slice_index nodes p))
    (length (edges (slice_index nodes p))) path e

-- the edges of the nodes at positions up to an end lead to positions before `limit`
abbrev pub LeadBefore : (ℕ → List ℕ) → List ℕ → CoverLists → List ℕ → ℕ → ℕ → Type 0
LeadBefore edges nodes c positions end limit = (p i : ℕ) → length c.members ≤ p → p < end
    → i < length (edges (slice_index nodes p))
    → slice_index positions (slice_index (edges (slice_index nodes p)) i) < limit

-- the nodes at these positions
abbrev pub ArePositions : List ℕ → List ℕ → Type 0
ArePositions nodes positions = (k : ℕ) → k < length positions
    → slice_index positions k < length nodes → slice_index nodes (slice_index positions k) ≡ k

-- the positions that are noted for these paths
pub record IsCoverRow (greatest : List (Option ℕ)) (paths positions : List ℕ) : Type 0 where
  pub len : length positions ≡ length paths
  pub each : (i : ℕ) → i < length paths
      → greatest_on greatest (slice_index paths i) ≡ Some (slice_index positions i)

-- the last position of a path reaches all positions on it
abbrev pub AreTails : (ℕ → List ℕ) → List ℕ → CoverLists → List ℕ → Type 0
AreTails edges nodes c tails = (p : ℕ) → p < length c.members
    → NodeReaches edges
    (slice_index nodes (slice_index tails (member_at c.members p).path)) (slice_index nodes p)

-- the lists with one component more, which ends before `end` and has the row that was merged
pub record IsNextComponent (old new : CoverLists) (end : ℕ) (greatest : List (Option ℕ))
    (tails new_tails : List ℕ) (member : PathMember) (row : List (Option ℕ)) : Type 0 where
  pub start : member.start ≡ length old.members
  -- the path begins here, or the row has the last position of the path
  pub path : (member.path ≡ length old.members)
      ⊎ (greatest_on greatest member.path ≡ Some (slice_index tails member.path))
  pub written : new_tails ≡ slice_set tails member.path (length old.members)
  pub whole : length new.members ≡ end
  pub before : (p : ℕ) → p < length old.members
      → member_at new.members p ≡ member_at old.members p
  pub members : (p : ℕ) → length old.members ≤ p → p < end → member_at new.members p ≡ member
  -- the row has the component itself, and what was merged
  pub own : AddsTo greatest row (λ path e. (path ≡ member.path) × (e ≡ length old.members))
  pub row_start : member.row_start ≡ length old.row_paths
  pub row_end : member.row_end ≡ length new.row_paths
  pub longer : length old.row_paths ≤ length new.row_paths
  pub entries : length new.row_positions ≡ length new.row_paths
  pub old_paths : (i : ℕ) → i < length old.row_paths
      → slice_index new.row_paths i ≡ slice_index old.row_paths i
  pub old_positions : (i : ℕ) → i < length old.row_paths
      → slice_index new.row_positions i ≡ slice_index old.row_positions i
  pub values : (i : ℕ) → length old.row_paths ≤ i → i < length new.row_paths
      → greatest_on row (slice_index new.row_paths i) ≡ Some (slice_index new.row_positions i)
  pub all : (path e : ℕ) → greatest_on row path ≡ Some e
      → (i : ℕ) × (length old.row_paths ≤ i) × (i < length new.row_paths)
      × (slice_index new.row_paths i ≡ path)
  pub rising : (i j : ℕ) → length old.row_paths ≤ i → i ≤ j → j < length new.row_paths
      → slice_index new.row_paths i ≤ slice_index new.row_paths j

-- the nodes at positions from start up to an end and the one at start reach each other
abbrev pub AreJoined : (ℕ → List ℕ) → List ℕ → ℕ → ℕ → Type 0
AreJoined edges nodes start end = (p : ℕ) → start ≤ p → p < end
    → NodeReaches edges (slice_index nodes start) (slice_index nodes p)
    × NodeReaches edges (slice_index nodes p) (slice_index nodes start)
