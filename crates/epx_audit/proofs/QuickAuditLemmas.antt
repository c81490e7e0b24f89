-- A map whose touches are linked is covered.
use Rattle.std.proofs.Common.{◌≡◌, ◌≢◌, ◌⊎◌, inl, inr, ℕ, ◌<◌, List, Bool, true, length, get_or}
use Rattle.std.proofs.Common.{slice_get, Some, Contains, IsTrue, refl, sym, subst, subst₂, ap, ◌∙◌}
use Rattle.std.proofs.Common.{arith}
use Rattle.epx_types.proofs.Common.{DefaultHasher, cases_lt, get_or_default, slice_get_within}
use Rattle.epx_types.proofs.Common.{IsRising, Instance, IsCovered, Ranked, IsExecutionOrder}
use Rattle.epx_types.proofs.Common.{ranked_ids, Reaches, IsReady, IsRising-same}
use Rattle.epx_types.proofs.Common.{slice_get-from_Contains, slice_get-from_map, Contains-slice_get}
use Rattle.epx_graph.proofs.Common.{DependencyGraph, edges_of, IsGraphOf, NodeReaches}
use Rattle.epx_graph.proofs.Common.{committed-count, NodeReaches-iff}
use Rattle.epx_audit.specs.declared.touches.KeyUse.{KeyUse}
use Rattle.epx_audit.specs.inner.RelatedTouches.{touch_at, AreAllRelated}
use Rattle.epx_audit.specs.inner.Touches.{touch, HoldTouches}
use Rattle.epx_audit.specs.inner.ReachIndexes.{AreOrderNodes}
use Rattle.epx_components.proofs.ReadyRankLemmas.{slice_get-node}
use Rattle.epx_audit.proofs.TouchLemmas.{hashed_touches-touched, hashed_touches-written}

module _ (m : List Instance) (g : DependencyGraph) (is : IsGraphOf m g) (order : List Ranked)
    (orders : IsExecutionOrder m order) (nodes : List ℕ) (are : AreOrderNodes m order nodes) where
  -- the position of a ready instance in the order
  pub record HasPosition (d : Instance) : Type 0 where
    pub position : ℕ
    pub within : position < length nodes
    pub at : slice_get m (get_or nodes position 0) ≡ Some d
    pub node : slice_get g.ids (get_or nodes position 0) ≡ Some d.id

  pub HasPosition-from_ready : (d : Instance) → Contains m d → IsReady m d.id → HasPosition d
  HasPosition-from_ready d in_d ready =
      let p = slice_get-from_Contains (ranked_ids order) d.id (orders.whole d.id ready) in
      let r = slice_get-from_map (λ (r : Ranked). r.id) order p.0 d.id p.1 in
      let k = get_or nodes p.0 0 in
      let e = slice_get-from_map (λ (e : Instance). e.id) m k r.0.id (are.each p.0 r.0 r.1) in
      let rising = subst IsRising is.committed is.graph.committed_rise in
      let one : e.0 ≡ d = IsRising-same m rising e.0 d (Contains-slice_get m k e.0 e.1) in_d
      (e.2 ∙ r.2) in
      let at : slice_get m k ≡ Some d = e.1 ∙ ap Some one in
      record {
        position = p.0;
        within = omega (arith, slice_get_within order p.0 r.0 r.1, are.whole);
        at = at;
        node = slice_get-node m g is k d at
            (omega (arith, slice_get_within m k d at, committed-count m g is));
      }

  module _ (start : DefaultHasher) (touches : List KeyUse)
      (linked : AreAllRelated (edges_of g) nodes touches (length touches)) where
    -- the position of a touch
    index_of : (t : KeyUse) → Contains touches t
        → (i : ℕ) × (i < length touches) × (touch_at touches i ≡ t)
    index_of t found = (found.0, found.1, get_or_default touches found.0 _ t found.1 ∙ found.2)

    -- the command at one position reaches the command at another
    abbrev Reach : ℕ → ℕ → Type 0
    Reach p q = NodeReaches (edges_of g) (get_or nodes p 0) (get_or nodes q 0)

    -- touches of one key, of which one writes, are of related commands
    pub Reaches-from_touches : (d e : Instance) (s : HasPosition d) (t : HasPosition e)
        → d.id ≢ e.id
        → (k : List ℕ) (w v : Bool) → Contains touches (touch start s.position k w)
        → Contains touches (touch start t.position k v) → IsTrue w ⊎ IsTrue v
        → Reaches m d.id e.id ⊎ Reaches m e.id d.id
    Reaches-from_touches d e s t differ k w v touched touched' one =
        let i = index_of (touch start s.position k w) touched in
        let j = index_of (touch start t.position k v) touched' in
        let place_i : (touch_at touches i.0).position ≡ s.position =
        ap (λ (t : KeyUse). t.position) i.2 in
        let place_j : (touch_at touches j.0).position ≡ t.position =
        ap (λ (t : KeyUse). t.position) j.2 in
        let alike : (touch_at touches i.0).hash ≡ (touch_at touches j.0).hash =
        ap (λ (t : KeyUse). t.hash) i.2 ∙ sym (ap (λ (t : KeyUse). t.hash) j.2) in
        let writes_i : (touch_at touches i.0).writes ≡ w = ap (λ (t : KeyUse). t.writes) i.2 in
        let writes_j : (touch_at touches j.0).writes ≡ v = ap (λ (t : KeyUse). t.writes) j.2 in
        elim (cases_lt i.0 j.0) [
          | inl below ↦
              let reach = linked i.0 j.0 below j.1 alike
              (elim one [ inl h ↦ inl (writes_i ∙ h) | inr h ↦ inr (writes_j ∙ h) ]) in
              inr ((NodeReaches-iff m g is _ _ e.id d.id t.node s.node).0
              (subst₂ Reach place_j place_i reach))
          | inr not_below ↦ elim (cases_lt j.0 i.0) [
            | inl above ↦
                let reach = linked j.0 i.0 above i.1 (sym alike)
                (elim one [ inl h ↦ inr (writes_i ∙ h) | inr h ↦ inl (writes_j ∙ h) ]) in
                inl ((NodeReaches-iff m g is _ _ d.id e.id s.node t.node).0
                (subst₂ Reach place_i place_j reach))
            | inr not_above ↦
                let same : i.0 ≡ j.0 = omega arith in
                let positions : s.position ≡ t.position =
                sym place_i ∙ (ap (λ i. (touch_at touches i).position) same ∙ place_j) in
                let ids : Some d.id ≡ Some e.id =
                sym s.node ∙ ap (λ p. slice_get g.ids (get_or nodes p 0)) positions ∙ t.node in
                absurd (differ (cc ids))
          ]
        ]

    pub IsCovered-from_touches : HoldTouches start m nodes (length nodes) touches → IsCovered m
    IsCovered-from_touches hold d e in_d in_e differ d_ready e_ready conflict =
        let s = HasPosition-from_ready d in_d d_ready in
        let t = HasPosition-from_ready e in_e e_ready in
        let k = conflict.0 in
        elim conflict.1 [
          | inl first ↦
              let other = hashed_touches-touched start t.position e.ops k first.1 in
              Reaches-from_touches d e s t differ k true other.0
              (hold s.position d _ s.within s.at
              (hashed_touches-written start s.position d.ops k first.0))
              (hold t.position e _ t.within t.at other.1) (inl refl)
          | inr second ↦
              let other = hashed_touches-touched start s.position d.ops k second.0 in
              Reaches-from_touches d e s t differ k other.0 true
              (hold s.position d _ s.within s.at other.1)
              (hold t.position e _ t.within t.at
              (hashed_touches-written start t.position e.ops k second.1)) (inr refl)
        ]
