-- The node of an instance is marked as ready exactly if the instance is ready.
use Rattle.std.proofs.Common.{◌≡◌, ℕ, List, Bool, slice_get, Some, refl, inl, inr, IsTrue}
use Rattle.epx_types.proofs.Common.{cases_lt, slice_get_within, Instance, IsReady}
use Rattle.epx_types.specs.declared.id.Id.{Id}
use Rattle.epx_graph.proofs.Common.{DependencyGraph, edges_of, IsGraphOf}
use Rattle.epx_components.proofs.NodePathLemmas.{NodeReaches-itself}
use Rattle.epx_components.proofs.ReadyNodeLemmas.{IsReady-from_node, ReachesMissing-not_if_ready}
use Rattle.epx_components.specs.between.ReadyMarks.{is_marked, AreReadyMarks}

module _ (m : List Instance) (g : DependencyGraph) (is : IsGraphOf m g) (ready : List Bool)
    (marks : AreReadyMarks g ready) where
  pub IsReady-from_mark : (k : ℕ) (x : Id) → slice_get g.ids k ≡ Some x → IsTrue (is_marked ready k)
      → IsReady m x
  IsReady-from_mark k x at h =
      let none = (marks.exact k (slice_get_within g.ids k x at)).0 h in
      elim (cases_lt k g.committed) [
        | inl l ↦ IsReady-from_node m g is k x at l none
        | inr past ↦ absurd (none (k, past, NodeReaches-itself (edges_of g) k k refl))
      ]

  pub is_marked-from_ready : (k : ℕ) (x : Id) → slice_get g.ids k ≡ Some x → IsReady m x
      → IsTrue (is_marked ready k)
  is_marked-from_ready k x at h = (marks.exact k (slice_get_within g.ids k x at)).1
      (ReachesMissing-not_if_ready m g is k x at h)
