-- The depth of an instance is that of its node.
use Rattle.std.proofs.Common.{◌≡◌, ℕ, List, [], ◌∷◌, length, slice_get, Some, refl, ◌∙◌, arith}
use Rattle.epx_types.proofs.Common.{slice_get_within, Descends, IsDepth, Instance}
use Rattle.epx_types.specs.declared.id.Id.{Id}
use Rattle.epx_graph.proofs.Common.{DependencyGraph, edges_of, IsGraphOf, slice_get-id_of_node}
use Rattle.epx_graph.proofs.Common.{IsNodePath-within}
use Rattle.epx_graph.proofs.Common.{NodeReaches-iff, NodeReaches-exists}
use Rattle.epx_components.specs.between.NodeDepths.{NodeDescends, IsNodeDepth}

module _ (m : List Instance) (g : DependencyGraph) (is : IsGraphOf m g) where
  -- a chain down from a node is one down from its instance
  descent_from_nodes : (k : ℕ) (x : Id) → slice_get g.ids k ≡ Some x → (cs : List ℕ)
      → NodeDescends (edges_of g) k cs → (ys : List Id) × Descends m x ys × (length ys ≡ length cs)
  descent_from_nodes k x at [] down = ([], tt, refl)
  descent_from_nodes k x at (c ∷ cs) down =
      let y = slice_get-id_of_node g is.graph c
      (IsNodePath-within g is.graph k down.0.0 c (slice_get_within g.ids k x at) down.0.1) in
      let rest = descent_from_nodes c y.0 y.1 cs down.2 in (
        y.0 ∷ rest.0,
        (
          (NodeReaches-iff m g is k c x y.0 at y.1).0 down.0,
          λ back. down.1 ((NodeReaches-iff m g is c k y.0 x y.1 at).1 back),
          rest.1,
        ),
        omega (arith, rest.2),
      )

  -- the converse
  nodes_from_descent : (k : ℕ) (x : Id) → slice_get g.ids k ≡ Some x → (ys : List Id)
      → Descends m x ys → (cs : List ℕ) × NodeDescends (edges_of g) k cs × (length cs ≡ length ys)
  nodes_from_descent k x at [] down = ([], tt, refl)
  nodes_from_descent k x at (y ∷ ys) down =
      let c = NodeReaches-exists m g is k x y at down.0 in
      let rest = nodes_from_descent c.0 y c.1 ys down.2 in (
        c.0 ∷ rest.0,
        (c.2, λ back. down.1 ((NodeReaches-iff m g is c.0 k y x c.1 at).0 back), rest.1),
        omega (arith, rest.2),
      )

  pub IsDepth-from_node : (k : ℕ) (x : Id) (depth : ℕ) → slice_get g.ids k ≡ Some x
      → IsNodeDepth (edges_of g) k depth → IsDepth m x depth
  IsDepth-from_node k x depth at is_depth =
      let down = is_depth.descent in
      let ids = descent_from_nodes k x at down.0 down.1 in
      record {
        descent = (ids.0, ids.1, ids.2 ∙ down.2);
        longest = λ ys below.
            let nodes = nodes_from_descent k x at ys below in
            omega (arith, nodes.2, is_depth.longest nodes.0 nodes.1);
      }
