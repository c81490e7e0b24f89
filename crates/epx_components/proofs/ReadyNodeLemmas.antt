-- A committed node reaches no missing node exactly if its instance is ready.
use Rattle.std.proofs.Common.{◌≡◌, ℕ, ◌<◌, List, slice_get, Some, inl, inr, arith}
use Rattle.epx_types.proofs.Common.{cases_lt, slice_get_within, Instance, IsReady}
use Rattle.epx_types.specs.declared.id.Id.{Id}
use Rattle.epx_graph.proofs.Common.{DependencyGraph, edges_of, IsGraphOf, slice_get-id_of_node}
use Rattle.epx_graph.proofs.Common.{IsNodePath-within}
use Rattle.epx_graph.proofs.Common.{IsCommitted-iff_node, NodeReaches-iff, NodeReaches-exists}
use Rattle.epx_components.specs.between.MissingNodes.{ReachesMissing}

module _ (m : List Instance) (g : DependencyGraph) (is : IsGraphOf m g) where
  pub IsReady-from_node : (k : ℕ) (x : Id) → slice_get g.ids k ≡ Some x → k < g.committed
      → ¬ ReachesMissing (edges_of g) g.committed k → IsReady m x
  IsReady-from_node k x at l none = record {
    committed = (IsCommitted-iff_node m g is k x at).0 l;
    complete = λ y there.
        let j = NodeReaches-exists m g is k x y at there in
        elim (cases_lt j.0 g.committed) [
          | inl below ↦ (IsCommitted-iff_node m g is j.0 y j.1).0 below
          | inr past ↦ absurd (none (j.0, past, j.2))
        ];
  }

  pub ReachesMissing-not_if_ready : (k : ℕ) (x : Id) → slice_get g.ids k ≡ Some x → IsReady m x
      → ¬ ReachesMissing (edges_of g) g.committed k
  ReachesMissing-not_if_ready k x at ready (j, past, path) =
      let y = slice_get-id_of_node g is.graph j
      (IsNodePath-within g is.graph k path.0 j (slice_get_within g.ids k x at) path.1) in
      let committed = ready.complete y.0 ((NodeReaches-iff m g is k j x y.0 at y.1).0 path) in
      omega (arith, (IsCommitted-iff_node m g is j y.0 y.1).1 committed)
