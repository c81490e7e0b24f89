-- The steps of a search for components.
use Rattle.std.specs.Prelude.{◌≡◌, ℕ, ◌+◌, ◌-◌, ◌<◌, ◌≤◌, ◌⊎◌, List, [], ◌∷◌, ◌++◌, length, take}
use Rattle.std.specs.Prelude.{drop, slice_index, slice_set}
use Rattle.epx_components.specs.declared.visit.Visit.{Visit}
use Rattle.epx_components.specs.declared.visit.Visit.TheVariants.{Unseen, Open, Closed}
use Rattle.epx_components.specs.inner.Starts.{IsInLastGroup, IsCutAbove}
use Rattle.epx_components.specs.inner.SearchStates.{SearchState, visit_of}

-- an open node of the last group
abbrev pub IsInTopGroup : SearchState → ℕ → Type 0
IsInTopGroup s k = (p : ℕ) × (visit_of s.visits k ≡ Open p) × IsInLastGroup s.starts p

-- a node of the last group with an edge left
pub record IsNextNode (edges : ℕ → List ℕ) (s : SearchState) (k : ℕ) : Type 0 where
  pub position : ℕ
  pub is_open : visit_of s.visits k ≡ Open position
  pub is_last : IsInLastGroup s.starts position
  pub left : slice_index s.looked_at k < length (edges k)

-- the node at the end of the path, where that is in the last group
pub record IsTopNode (s : SearchState) (k : ℕ) : Type 0 where
  pub position : ℕ
  pub some : 0 < length s.path
  pub ends : slice_index s.path (length s.path - 1) ≡ position
  pub node : slice_index s.opened position ≡ k
  pub is_last : IsInLastGroup s.starts position

-- no node of the path is in the last group
abbrev pub IsPathBelow : SearchState → Type 0
IsPathBelow s = (i : ℕ) → i < length s.path
    → slice_index s.path i < slice_index s.starts (length s.starts - 1)

-- after a node is opened as a group of its own
abbrev pub after_enter : SearchState → ℕ → SearchState
after_enter s k = record s {
  visits = slice_set s.visits k (Open (length s.opened));
  opened = s.opened ++ k ∷ [];
  path = s.path ++ length s.opened ∷ [];
  starts = s.starts ++ length s.opened ∷ [];
}

-- after the next edge of a node is looked at
abbrev pub looked : SearchState → ℕ → SearchState
looked s k = record s { looked_at = slice_set s.looked_at k (slice_index s.looked_at k + 1) }

-- what an edge does that leads to a node in this state
abbrev pub Arrives : Visit → ℕ → SearchState → SearchState → Type 0
Arrives Unseen k old new = new ≡ after_enter old k
Arrives (Open t) k old new = IsCutAbove t old.starts new.starts
    × (new ≡ record old { starts = new.starts })
Arrives (Closed c) k old new = new ≡ old

-- the open nodes from a position on are closed
abbrev pub Closes : ℕ → ℕ → Visit → Visit → Type 0
Closes start c Unseen new = new ≡ Unseen
Closes start c (Open p) new = ((p < start) × (new ≡ Open p)) ⊎ ((start ≤ p) × (new ≡ Closed c))
Closes start c (Closed d) new = new ≡ Closed d

-- the last group has become a component
pub record IsFinished (old new : SearchState) : Type 0 where
  pub start : ℕ
  pub last : (0 < length old.starts) × (slice_index old.starts (length old.starts - 1) ≡ start)
  pub closes : (k : ℕ) → Closes start old.count (visit_of old.visits k) (visit_of new.visits k)
  pub all_visits : length new.visits ≡ length old.visits
  pub same : new ≡ record old {
    visits = new.visits;
    opened = take start old.opened;
    starts = take (length old.starts - 1) old.starts;
    order = old.order ++ drop start old.opened;
    count = old.count + 1;
  }
