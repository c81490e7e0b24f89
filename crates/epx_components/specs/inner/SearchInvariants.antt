-- The invariant of the search for components.
use Rattle.std.specs.Prelude.{◌≡◌, ◌≢◌, ℕ, ◌<◌, ◌≤◌, ◌⊎◌, List, length, slice_index, Contains}
use Rattle.epx_graph.specs.NodePaths.{NodeReaches}
use Rattle.epx_components.specs.declared.visit.Visit.{Visit}
use Rattle.epx_components.specs.declared.visit.Visit.TheVariants.{Unseen, Open, Closed}
use Rattle.epx_components.specs.inner.Starts.{AreRisingBelow, IsInGroupFrom}
use Rattle.epx_components.specs.inner.SearchStates.{SearchState, visit_of}

-- an edge that was looked at leads from a node in the first state to a node in the second
abbrev pub MayLead : List ℕ → Visit → Visit → Type 0
MayLead starts Unseen to = ⊥
MayLead starts (Open p) Unseen = ⊥
MayLead starts (Open p) (Open q) = IsInGroupFrom starts p q
MayLead starts (Open p) (Closed d) = Unit {0}
MayLead starts (Closed c) Unseen = ⊥
MayLead starts (Closed c) (Open q) = ⊥
MayLead starts (Closed c) (Closed d) = d ≤ c

-- the open nodes are those of the row, each at its position
pub record IsRow (visits : List Visit) (opened : List ℕ) : Type 0 where
  pub is_open_at : (p : ℕ) → p < length opened → visit_of visits (slice_index opened p) ≡ Open p
  pub placed : (k p : ℕ) → visit_of visits k ≡ Open p
      → (p < length opened) × (slice_index opened p ≡ k)

-- the finished components, and their nodes by rising component
pub record AreFinished (edges : ℕ → List ℕ) (visits : List Visit) (looked_at order : List ℕ)
    (count : ℕ) : Type 0 where
  pub counted : (k c : ℕ) → visit_of visits k ≡ Closed c → c < count
  pub joined : (k j c : ℕ) → visit_of visits k ≡ Closed c → visit_of visits j ≡ Closed c
      → NodeReaches edges k j
  pub looked : (k c : ℕ) → visit_of visits k ≡ Closed c → length (edges k) ≤ slice_index looked_at k
  pub listed : (k c : ℕ) → visit_of visits k ≡ Closed c → Contains order k
  pub closed : (i : ℕ) → i < length order → (c : ℕ)
      × (visit_of visits (slice_index order i) ≡ Closed c)
  pub sorted : (i j c d : ℕ) → i ≤ j → j < length order
      → visit_of visits (slice_index order i) ≡ Closed c
      → visit_of visits (slice_index order j) ≡ Closed d → c ≤ d
  pub once : (i j : ℕ) → i < j → j < length order → slice_index order i ≢ slice_index order j
  pub each : (c : ℕ) → c < count → (k : ℕ) × (visit_of visits k ≡ Closed c)
  pub count_below : count ≤ length order

-- a search of n nodes that has seen all nodes below `seen`
pub record IsSearch (edges : ℕ → List ℕ) (n seen : ℕ) (s : SearchState) : Type 0 where
  pub all_visits : length s.visits ≡ n
  pub looks : length s.looked_at ≡ n
  pub seen_below : (k : ℕ) → k < seen → visit_of s.visits k ≢ Unseen
  pub row : IsRow s.visits s.opened
  -- the groups cover the row: the first one starts at 0
  pub starts : AreRisingBelow s.starts (length s.opened)
  pub begins : slice_index s.starts 0 ≡ 0
  pub grouped : 0 < length s.opened → 0 < length s.starts
  -- an open node that is not on the path has no edge left
  pub path : AreRisingBelow s.path (length s.opened)
  pub waits : (k p : ℕ) → visit_of s.visits k ≡ Open p
      → (length (edges k) ≤ slice_index s.looked_at k) ⊎ Contains s.path p
  pub leads : (k i : ℕ) → i < slice_index s.looked_at k
      → MayLead s.starts (visit_of s.visits k) (visit_of s.visits (slice_index (edges k) i))
  -- an open node reaches the nodes of its own group and of later groups
  pub reaches : (k j p q : ℕ) → visit_of s.visits k ≡ Open p → visit_of s.visits j ≡ Open q
      → IsInGroupFrom s.starts p q → NodeReaches edges k j
  pub finished : AreFinished edges s.visits s.looked_at s.order s.count

-- from the old state to the new one the search keeps its invariant, and what is seen stays seen
abbrev pub KeepsSearch : (ℕ → List ℕ) → ℕ → SearchState → SearchState → Type 0
KeepsSearch edges n old new = (seen : ℕ) → IsSearch edges n seen old → IsSearch edges n seen new
