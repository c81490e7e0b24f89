-- The model of a search for components.
use Rattle.std.specs.Prelude.{ℕ, List, slice_index_or}
use Rattle.epx_components.specs.declared.visit.Visit.{Visit}
use Rattle.epx_components.specs.declared.visit.Visit.TheVariants.{Unseen}
use Rattle.epx_components.specs.declared.search.Search.{Search}

-- the lists and the count of a search
pub record SearchState : Type 0 where
  pub visits : List Visit
  pub looked_at : List ℕ
  pub opened : List ℕ
  pub path : List ℕ
  pub starts : List ℕ
  pub order : List ℕ
  pub count : ℕ

-- what contracts see of a search in memory
abbrev pub state : Search → SearchState
state s = record {
  visits = s.visits.items;
  looked_at = s.looked_at.items;
  opened = s.opened.items;
  path = s.path.items;
  starts = s.starts.items;
  order = s.order.items;
  count = s.count;
}

-- the progress of the search at a node
abbrev pub visit_of : List Visit → ℕ → Visit
visit_of visits k = slice_index_or visits k Unseen
