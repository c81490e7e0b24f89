-- Dependency graphs over node numbers.
use Rattle.std.specs.Prelude.{◌≡◌, ℕ, ◌-◌, ◌<◌, ◌≤◌, List, [], ◌++◌, length, take, drop, replicate}
use Rattle.std.specs.Prelude.{slice_index_or, All, AllPairs, Contains}
use Rattle.epx_types.specs.declared.id.Id.{Id}
use Rattle.epx_types.specs.Ids.{IsRising}

-- the model of a graph: the Id of each node, the number of committed nodes, and the targets of
-- each node's edges
pub record DependencyGraph : Type 0 where
  pub ids : List Id
  pub committed : ℕ
  pub edges : List (List ℕ)

-- the targets of a node's edges
abbrev pub edges_of : DependencyGraph → ℕ → List ℕ
edges_of g k = slice_index_or g.edges k []

-- the Ids of the committed nodes, which come before the missing ones
abbrev pub committed_ids : DependencyGraph → List Id
committed_ids g = take g.committed g.ids

-- the Ids of the missing nodes, which come after the committed ones
abbrev pub missing_ids : DependencyGraph → List Id
missing_ids g = drop g.committed g.ids

-- the invariant of a graph: edges lead to nodes, by rising number, and none leads from a missing
-- node; committed nodes are by rising Id, missing nodes are by rising Id, and no Id is there twice
pub record IsGraph (g : DependencyGraph) : Type 0 where
  pub edge_lists : length g.edges ≡ length g.ids
  pub committed_nodes : g.committed ≤ length g.ids
  pub in_range : All (λ row. All (λ j. j < length g.ids) row) g.edges
  pub edges_rise : (k : ℕ) → AllPairs (λ i j. i < j) (edges_of g k)
  pub missing_lead_nowhere : (k : ℕ) → g.committed ≤ k → edges_of g k ≡ []
  pub committed_rise : IsRising (committed_ids g)
  pub missing_rise : IsRising (missing_ids g)
  pub apart : (x : Id) → Contains (committed_ids g) x → ¬ Contains (missing_ids g) x

-- the graph with these node Ids, whose first nodes, one for each row, are committed and have the
-- edges of the rows; other nodes have none
abbrev pub graph_over : List Id → List (List ℕ) → DependencyGraph
graph_over ids rows = record {
  ids = ids;
  committed = length rows;
  edges = rows ++ replicate (length ids - length rows) [];
}
