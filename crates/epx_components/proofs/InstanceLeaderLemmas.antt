-- The leader of an instance is that of its node.
use Rattle.std.proofs.Common.{◌≡◌, ℕ, ◌<◌, List, length, slice_get, Some, sym, ap, ◌∙◌, inl, inr}
use Rattle.std.proofs.Common.{arith}
use Rattle.epx_types.proofs.Common.{cases_lt, IsLeader, Instance, Reaches-trans, Reaches-committed}
use Rattle.epx_types.specs.declared.id.Id.{Id}
use Rattle.epx_graph.proofs.Common.{DependencyGraph, IsGraph, edges_of, IsGraphOf}
use Rattle.epx_graph.proofs.Common.{IsNodePath-within}
use Rattle.epx_graph.proofs.Common.{ids-is_unique, IsCommitted-iff_node, NodeReaches-iff}
use Rattle.epx_graph.proofs.Common.{Below-iff_node}
use Rattle.epx_graph.proofs.Common.{NodeReaches-exists}
use Rattle.epx_components.specs.NodeComponents.{IsNodeLeader}

-- a leader is a node
pub IsNodeLeader-within : (g : DependencyGraph) → IsGraph g → (k l : ℕ) → k < length g.ids
    → IsNodeLeader (edges_of g) k l → l < length g.ids
IsNodeLeader-within g is k l below lead =
    IsNodePath-within g is k lead.member.0.0 l below lead.member.0.1

-- the leader of an instance, committed or missing, is that of the leader of its node
pub IsLeader-from_node : (m : List Instance) (g : DependencyGraph) → IsGraphOf m g
    → (k l : ℕ) (x y : Id) → slice_get g.ids k ≡ Some x → slice_get g.ids l ≡ Some y
    → IsNodeLeader (edges_of g) k l → IsLeader m x y
IsLeader-from_node m g is k l x y at to lead = record {
  member = (
    (NodeReaches-iff m g is k l x y at to).0 lead.member.0,
    (NodeReaches-iff m g is l k y x to at).0 lead.member.1,
  );
  least = λ z one.
      let j = NodeReaches-exists m g is k x z at one.0 in
      let back = (NodeReaches-iff m g is j.0 k z x j.1 at).1 one.1 in
      let low = lead.least j.0 (j.2, back) in
      let there = (NodeReaches-iff m g is k l x y at to).0 lead.member.0 in
      let here = (NodeReaches-iff m g is l k y x to at).0 lead.member.1 in
      elim (cases_lt l j.0) [
        | inl less ↦
            let apart : ¬ (y ≡ z) =
            λ same. (let one_node = ids-is_unique g is.graph l j.0 y to
            (j.1 ∙ ap Some (sym same)) in omega arith) in
            let l_in = (IsCommitted-iff_node m g is l y to).1
            (Reaches-committed m y z (Reaches-trans m y x z here one.0) apart) in
            let j_in = (IsCommitted-iff_node m g is j.0 z j.1).1
            (Reaches-committed m z y (Reaches-trans m z x y one.1 there)
            (λ same. apart (sym same))) in
            inr ((Below-iff_node m g is l j.0 y z to j.1 l_in j_in).0 less)
        | inr more ↦
            let one_node : l ≡ j.0 = omega arith in
            let same : Some y ≡ Some z = sym to ∙ ap (slice_get g.ids) one_node ∙ j.1 in
            inl (cc same)
      ];
}
