-- The first of the shortest paths over nodes, step by step.
use Rattle.std.specs.Prelude.{◌≡◌, ℕ, suc, ◌≤◌, List, ◌++◌, length, map, Contains, Option, Some}
use Rattle.std.specs.Prelude.{MatchOption, slice_index_or}
use Rattle.epx_types.specs.declared.id.Id.{Id}
use Rattle.epx_types.specs.Ids.{UpTo}
use Rattle.epx_graph.specs.Graphs.{DependencyGraph, edges_of}
use Rattle.epx_graph.specs.NodePaths.{IsNodePath}
use Rattle.epx_why.specs.FirstPaths.{ComesUpTo}
use Rattle.epx_graph.specs.between.NodeSteps.{LeadsTo, distance_at}

-- the Id of a node
abbrev pub id_at : DependencyGraph → ℕ → Id
id_at g k = slice_index_or g.ids k (record { replica = 0; number = 0 })

-- none of the targets has a distance
abbrev pub IsUnreached : List (Option ℕ) → List ℕ → Type 0
IsUnreached distances targets = (c n : ℕ) → Contains targets c
    → ¬ (distance_at distances c ≡ Some n)

-- the least distance of the targets
pub record IsFewest (distances : List (Option ℕ)) (targets : List ℕ) (n : ℕ) : Type 0 where
  pub some : (c : ℕ) × Contains targets c × (distance_at distances c ≡ Some n)
  pub fewest : (c l : ℕ) → Contains targets c → distance_at distances c ≡ Some l → n ≤ l

-- the target has this distance, and none of the other targets with it has a lower Id
pub record IsNext (g : DependencyGraph) (distances : List (Option ℕ)) (targets : List ℕ)
    (n c : ℕ) : Type 0 where
  pub edge : Contains targets c
  pub distance : distance_at distances c ≡ Some n
  pub least : (o : ℕ) → Contains targets o → distance_at distances o ≡ Some n
      → UpTo (id_at g c) (id_at g o)

-- the least distance of the targets, if one has a distance
abbrev pub AreFewest : List (Option ℕ) → List ℕ → Option ℕ → Type 0
AreFewest distances targets fewest =
    MatchOption fewest (IsUnreached distances targets) (IsFewest distances targets)

-- of the targets at a distance the one with the least Id, if there is one
abbrev pub AreNext : DependencyGraph → List (Option ℕ) → List ℕ → ℕ → Option ℕ → Type 0
AreNext g distances targets n next =
    MatchOption next ((c : ℕ) → Contains targets c → ¬ (distance_at distances c ≡ Some n))
    (IsNext g distances targets n)

-- of the paths of n edges from k to t the one that comes first by its Ids
pub record IsFirstWalk (g : DependencyGraph) (t n k : ℕ) (cs : List ℕ) : Type 0 where
  pub path : IsNodePath (edges_of g) k cs t
  pub long : length cs ≡ n
  pub first : (os : List ℕ) → IsNodePath (edges_of g) k os t → length os ≡ n
      → ComesUpTo (map (id_at g) cs) (map (id_at g) os)

-- a path of at least one edge from k to t, as short as any, and of these the first by its Ids
pub record IsFirstNodePath (g : DependencyGraph) (t k : ℕ) (cs : List ℕ) : Type 0 where
  pub fewest : ℕ
  pub walk : IsFirstWalk g t (suc fewest) k cs
  pub shortest : (n : ℕ) → LeadsTo (edges_of g) k (suc n) t → fewest ≤ n

-- the nodes lead from k to `last`, and the first walk from there makes them the first walk from k
pub record IsWalkBegun (g : DependencyGraph) (distances : List (Option ℕ)) (t k steps : ℕ)
    (nodes : List ℕ) (last left : ℕ) : Type 0 where
  pub distance : distance_at distances last ≡ Some left
  pub goes_on : (rest : List ℕ) → IsFirstWalk g t left last rest
      → IsFirstWalk g t steps k (nodes ++ rest)
