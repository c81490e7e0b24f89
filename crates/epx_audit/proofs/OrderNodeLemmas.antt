-- The nodes at the positions of an execution order.
use Rattle.std.proofs.Common.{◌≡◌, ℕ, ◌<◌, inl, inr, List, length, get_or, slice_get, Some, All}
use Rattle.std.proofs.Common.{sym, subst, ap, ◌∙◌, arith}
use Rattle.epx_types.proofs.Common.{get_or_default, slice_get_within, Instance, Ranked}
use Rattle.epx_types.proofs.Common.{IsExecutionOrder, Reaches, slice_get-from_map}
use Rattle.epx_types.proofs.Common.{Contains-slice_get, Reaches-trans}
use Rattle.epx_types.specs.declared.id.Id.{Id}
use Rattle.std.proofs.lemmas.Option.{slice_get_cases}
use Rattle.epx_graph.proofs.Common.{DependencyGraph, edges_of, IsGraphOf, committed-count}
use Rattle.epx_graph.proofs.Common.{NodeReaches-iff}
use Rattle.epx_audit.specs.inner.ReachIndexes.{AreOrderNodes, LeadersJoin}
use Rattle.epx_components.proofs.ReadyRankLemmas.{slice_get-node}

module _ (m : List Instance) (order : List Ranked) (nodes : List ℕ)
    (are : AreOrderNodes m order nodes) where
  entry : (p : ℕ) (r : Ranked) → slice_get order p ≡ Some r
      → (e : Instance) × (slice_get m (get_or nodes p 0) ≡ Some e) × (e.id ≡ r.id)
  entry p r at = slice_get-from_map (λ (e : Instance). e.id) m (get_or nodes p 0) r.id
      (are.each p r at)

  -- each node is that of an instance of the map
  pub All-nodes_in_map : All (λ k. k < length m) nodes
  All-nodes_in_map p d l = elim (slice_get_cases order p).1 [
    | inl some ↦
        let e = entry p some.0 some.2 in
        omega (arith, slice_get_within m (get_or nodes p 0) e.0 e.1, get_or_default nodes p 0 d l)
    | inr none ↦ absurd (omega (arith, none.0, l, are.whole))
  ]

  module _ (g : DependencyGraph) (is : IsGraphOf m g) where
    pub All-nodes_in_graph : All (λ k. k < length g.ids) nodes
    All-nodes_in_graph p d l =
        omega (arith, All-nodes_in_map p d l, committed-count m g is, is.graph.committed_nodes)

    pub slice_get-order_node : (p : ℕ) (r : Ranked) → slice_get order p ≡ Some r
        → slice_get g.ids (get_or nodes p 0) ≡ Some r.id
    slice_get-order_node p r at =
        let e = entry p r at in
        slice_get-node m g is (get_or nodes p 0) e.0 e.1
        (omega (arith, slice_get_within m (get_or nodes p 0) e.0 e.1, committed-count m g is))
        ∙ ap Some e.2

    -- the nodes of one component reach each other
    pub LeadersJoin-order_nodes : IsExecutionOrder m order → LeadersJoin (edges_of g) order nodes
    LeadersJoin-order_nodes orders p q r s at_p at_q same =
        let first = (orders.ranked r (Contains-slice_get order p r at_p)).leader.member in
        let second = (orders.ranked s (Contains-slice_get order q s at_q)).leader.member in
        let reach = Reaches-trans m r.id r.leader s.id first.0
        (subst (λ (l : Id). Reaches m l s.id) (sym same) second.1) in
        (NodeReaches-iff m g is _ _ r.id s.id (slice_get-order_node p r at_p)
        (slice_get-order_node q s at_q)).1 reach
