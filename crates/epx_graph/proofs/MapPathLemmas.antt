-- Paths of the graph of a map are those of the map.
use Rattle.std.proofs.Common.{◌≡◌, ◌↔◌, ℕ, ◌<◌, List, [], ◌∷◌, length, slice_get, Some, Contains}
use Rattle.std.proofs.Common.{◌≤◌, refl, sym, ap, subst, ◌∙◌, inl, inr, arith}
use Rattle.epx_types.proofs.Common.{cases_lt, length-take, length-map, Below, Instance, ids_of}
use Rattle.epx_types.proofs.Common.{IsCommitted, DependsOn, IsPath, Reaches, slice_get-from_map}
use Rattle.epx_types.proofs.Common.{Reaches-trans, Reaches-dependency, Contains-Id_cases}
use Rattle.epx_types.specs.declared.id.Id.{Id}
use Rattle.epx_graph.specs.Graphs.{DependencyGraph, edges_of, committed_ids}
use Rattle.epx_graph.specs.GraphOf.{IsGraphOf}
use Rattle.epx_graph.specs.NodePaths.{IsNodePath, NodeReaches}
use Rattle.epx_graph.proofs.GraphNodeLemmas.{slice_get-committed_ids, slice_get-from_committed}
use Rattle.epx_graph.proofs.GraphNodeLemmas.{slice_get-from_missing}
use Rattle.epx_graph.proofs.GraphNodeLemmas.{Contains-committed, Contains-missing, ids-is_unique}
use Rattle.epx_graph.proofs.GraphNodeLemmas.{edges_of-within, slice_get-id_of_node, Below-committed}

module _ (m : List Instance) (g : DependencyGraph) (is : IsGraphOf m g) where
  -- ---- nodes and instances

  -- the number of committed nodes is the number of instances of the map
  pub committed-count : g.committed ≡ length m
  committed-count =
      let long : length (committed_ids g) ≡ length m =
      ap length is.committed ∙ length-map m (λ (e : Instance). e.id) in
      omega (arith, length-take g.committed g.ids, is.graph.committed_nodes)

  -- a node is committed exactly if its instance is
  pub IsCommitted-iff_node : (k : ℕ) (x : Id) → slice_get g.ids k ≡ Some x
      → (k < g.committed) ↔ IsCommitted m x
  IsCommitted-iff_node k x at = (there, back) where
    there : k < g.committed → IsCommitted m x
    there l = subst (λ (ids : List Id). Contains ids x) is.committed
        (Contains-committed g is.graph k x at l)

    back : IsCommitted m x → k < g.committed
    back h =
        elim (cases_lt k g.committed) [
          | inl l ↦ l
          | inr l ↦ absurd (((is.missing x).0 (Contains-missing g is.graph k x at l)).1 h)
        ]

  -- the node of an Id that is not committed is missing
  pub committed-if_missing : (j : ℕ) (y : Id) → slice_get g.ids j ≡ Some y → ¬ IsCommitted m y
      → g.committed ≤ j
  committed-if_missing j y at missing =
      elim (cases_lt j g.committed) [
        | inl l ↦ absurd (missing ((IsCommitted-iff_node j y at).0 l))
        | inr past ↦ past
      ]

  pub IsCommitted-not_past : (j : ℕ) (y : Id) → slice_get g.ids j ≡ Some y → g.committed ≤ j
      → ¬ IsCommitted m y
  IsCommitted-not_past j y at past h = let l =
      (IsCommitted-iff_node j y at).1 h in absurd (omega arith)

  -- the instance at a position of the map is that of the node with this number
  pub slice_get-instance : (k : ℕ) (x : Id) → slice_get g.ids k ≡ Some x → k < g.committed
      → (e : Instance) × (slice_get m k ≡ Some e) × (e.id ≡ x)
  slice_get-instance k x at l = slice_get-from_map (λ (e : Instance). e.id) m k x
      (ap (λ ids. slice_get ids k) (sym is.committed) ∙ slice_get-committed_ids g is.graph k x at l)

  -- a committed instance has a node, and so has each of its dependencies
  pub slice_get-if_committed : (x : Id) → IsCommitted m x
      → (k : ℕ) × (k < g.committed) × (slice_get g.ids k ≡ Some x)
  slice_get-if_committed x h = slice_get-from_committed g is.graph x
      (subst (λ (ids : List Id). Contains ids x) (sym is.committed) h)

  pub slice_get-dependency : (x y : Id) → DependsOn m x y → (j : ℕ) × (slice_get g.ids j ≡ Some y)
  slice_get-dependency x y d =
      elim (Contains-Id_cases (ids_of m) y) [
        | inl there ↦ let k = slice_get-if_committed y there in (k.0, k.2)
        | inr missing ↦ let k =
            slice_get-from_missing g is.graph y ((is.missing y).1 ((x, d), missing)) in
            (k.0, k.2)
      ]

  -- among committed nodes the order of numbers is that of Ids
  pub Below-iff_node : (k j : ℕ) (x y : Id) → slice_get g.ids k ≡ Some x
      → slice_get g.ids j ≡ Some y
      → k < g.committed → j < g.committed → (k < j) ↔ Below x y
  Below-iff_node = Below-committed g is.graph

  -- ---- paths

  node_path : (k : ℕ) (x : Id) → slice_get g.ids k ≡ Some x → (cs : List ℕ) (j : ℕ) (y : Id)
      → slice_get g.ids j ≡ Some y → IsNodePath (edges_of g) k cs j → Reaches m x y
  node_path k x at [] j y to path =
      let same : Some x ≡ Some y = sym at ∙ ap (slice_get g.ids) path ∙ to in
      inl (cc same)
  node_path k x at (c ∷ cs) j y to path =
      let z = slice_get-id_of_node g is.graph c (edges_of-within g is.graph k c path.0) in
      let step = (is.edges k c x z.0 at z.1).0 path.0 in
      Reaches-trans m x z.0 y (Reaches-dependency m x z.0 step)
      (node_path c z.0 z.1 cs j y to path.1)

  map_path : (k : ℕ) (x : Id) → slice_get g.ids k ≡ Some x → (via : List Id) (y : Id)
      → IsPath m x via y → (j : ℕ) × (slice_get g.ids j ≡ Some y) × NodeReaches (edges_of g) k j
  map_path k x at [] y path =
      let j = slice_get-dependency x y path in
      (j.0, j.1, (j.0 ∷ [], ((is.edges k j.0 x y at j.1).1 path, refl)))
  map_path k x at (z ∷ via) y path =
      let c = slice_get-dependency x z path.0 in
      let rest = map_path c.0 z c.1 via y path.1 in
      (rest.0, rest.1, (c.0 ∷ rest.2.0, ((is.edges k c.0 x z at c.1).1 path.0, rest.2.1)))

  -- if an instance has a node, each instance that it reaches has a node that this node reaches
  pub NodeReaches-exists : (k : ℕ) (x y : Id) → slice_get g.ids k ≡ Some x → Reaches m x y
      → (j : ℕ) × (slice_get g.ids j ≡ Some y) × NodeReaches (edges_of g) k j
  NodeReaches-exists k x y at (inl same) = (k, at ∙ ap Some same, ([], refl))
  NodeReaches-exists k x y at (inr path) = map_path k x at path.0 y path.1

  -- one node reaches another exactly if its instance reaches the other's instance
  pub NodeReaches-iff : (k j : ℕ) (x y : Id) → slice_get g.ids k ≡ Some x
      → slice_get g.ids j ≡ Some y
      → NodeReaches (edges_of g) k j ↔ Reaches m x y
  NodeReaches-iff k j x y at to = (λ path. node_path k x at path.0 j y to path.1, back) where
    back : Reaches m x y → NodeReaches (edges_of g) k j
    back there =
        let found = NodeReaches-exists k x y at there in
        subst (NodeReaches (edges_of g) k) (ids-is_unique g is.graph found.0 j y found.1 to)
        found.2
