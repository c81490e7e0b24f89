-- Conflicting commands that are not related share a doubtful key.
use Rattle.std.proofs.Common.{◌≡◌, ◌≢◌, ◌⊎◌, inl, inr, ℕ, ◌<◌, List, Bool, true, length, get_or}
use Rattle.std.proofs.Common.{slice_get, Some, Contains, IsTrue, refl, sym, subst, subst₂, ◌∙◌}
use Rattle.std.proofs.Common.{arith}
use Rattle.epx_types.proofs.Common.{DefaultHasher, get_or_default, slice_get_within, IsRising}
use Rattle.epx_types.proofs.Common.{Instance, Ranked, IsExecutionOrder, Reaches, Contains-slice_get}
use Rattle.epx_types.proofs.Common.{position_of-found}
use Rattle.epx_graph.proofs.Common.{DependencyGraph, edges_of, IsGraphOf, committed-count}
use Rattle.epx_graph.proofs.Common.{NodeReaches-iff}
use Rattle.epx_audit.specs.declared.doubtful_touches.DoubtfulTouch.{DoubtfulTouch}
use Rattle.epx_audit.specs.declared.touches.KeyUse.{KeyUse}
use Rattle.epx_audit.specs.inner.RelatedTouches.{AreAllRelated}
use Rattle.epx_audit.specs.inner.DoubtfulKeys.{doubtful_touch, ShareKey, HoldAllConflicts}
use Rattle.epx_components.specs.between.ReadyMarks.{AreReadyMarks}
use Rattle.epx_audit.specs.inner.Touches.{touch, hash_of, hashed_touches, HoldTouches}
use Rattle.epx_audit.specs.inner.ReachIndexes.{AreOrderNodes}
use Rattle.epx_audit.proofs.HashLemmas.{Contains-or_not}
use Rattle.epx_audit.proofs.QuickAuditLemmas.{HasPosition, HasPosition-from_ready}
use Rattle.epx_audit.proofs.QuickAuditLemmas.{Reaches-from_touches}
use Rattle.epx_components.proofs.ReadyMarkLemmas.{IsReady-from_mark}
use Rattle.epx_components.proofs.ReadyRankLemmas.{slice_get-node}
use Rattle.epx_audit.proofs.TouchLemmas.{hashed_touches-touched, hashed_touches-written}

module _ (m : List Instance) (g : DependencyGraph) (is : IsGraphOf m g) where
  within : (k : ℕ) (d : Instance) → slice_get m k ≡ Some d → k < g.committed
  within k d at = omega (arith, slice_get_within m k d at, committed-count m g is)

  -- an instance is at one position of the map
  one_place : (k j : ℕ) (d e : Instance) → slice_get m k ≡ Some d → slice_get m j ≡ Some e
      → d.id ≡ e.id → k ≡ j
  one_place k j d e at to same =
      let rising = subst IsRising is.committed is.graph.committed_rise in
      let both : Some k ≡ Some j = sym (position_of-found m rising e.id k d at same)
      ∙ position_of-found m rising e.id j e to refl in
      cc both

  -- if all nodes write one key
  pub HoldAllConflicts-if_all_doubtful : (touches : List DoubtfulTouch)
      → ((k : ℕ) → k < length m → Contains touches (record { key = 0; node = k; writes = true }))
      → (ready : List Bool) → HoldAllConflicts m (edges_of g) ready touches
  HoldAllConflicts-if_all_doubtful touches all ready k j d e above at to k_ready j_ready conflict =
      inr (record {
        mine = record { key = 0; node = k; writes = true };
        other = record { key = 0; node = j; writes = true };
        held = (all k (slice_get_within m k d at), all j (slice_get_within m j e to));
        nodes = (refl, refl);
        alike = refl;
        writes = inl refl;
      })

  module _ (order : List Ranked) (orders : IsExecutionOrder m order) (nodes : List ℕ)
      (are : AreOrderNodes m order nodes) (start : DefaultHasher) (touches sure : List KeyUse)
      (hashes : List ℕ) (hold : HoldTouches start m nodes (length nodes) touches)
      (keeps : (t : KeyUse) → Contains touches t → ¬ Contains hashes t.hash → Contains sure t)
      (linked : AreAllRelated (edges_of g) nodes sure (length sure))
      (doubtful : List DoubtfulTouch) (found : (t : KeyUse) (key : ℕ) → Contains touches t
      → key < length hashes → get_or hashes key 0 ≡ t.hash
      → Contains doubtful (doubtful_touch nodes key t)) where
    -- commands that touch one key, of which one writes it
    by_key : (d e : Instance) (s : HasPosition m g is order orders nodes are d)
        (t : HasPosition m g is order orders nodes are e) → d.id ≢ e.id → (k : List ℕ) (w v : Bool)
        → Contains (hashed_touches start s.position d.ops) (touch start s.position k w)
        → Contains (hashed_touches start t.position e.ops) (touch start t.position k v)
        → IsTrue w ⊎ IsTrue v → (Reaches m d.id e.id ⊎ Reaches m e.id d.id)
        ⊎ ShareKey doubtful (get_or nodes s.position 0) (get_or nodes t.position 0)
    by_key d e s t differ k w v in_d in_e one =
        let mine = hold s.position d (touch start s.position k w) s.within s.at in_d in
        let other = hold t.position e (touch start t.position k v) t.within t.at in_e in
        elim (Contains-or_not hashes (hash_of start k)) [
          | inl there ↦
              let key : get_or hashes there.0 0 ≡ hash_of start k =
              get_or_default hashes there.0 0 _ there.1 ∙ there.2 in
              inr (record {
                mine = doubtful_touch nodes there.0 (touch start s.position k w);
                other = doubtful_touch nodes there.0 (touch start t.position k v);
                held = (found _ there.0 mine there.1 key, found _ there.0 other there.1 key);
                nodes = (refl, refl);
                alike = refl;
                writes = one;
              })
          | inr certain ↦ inl
              (Reaches-from_touches m g is order orders nodes are start sure linked d e s t
              differ k w v (keeps _ mine certain) (keeps _ other certain) one)
        ]

    pub HoldAllConflicts-doubtful : (ready : List Bool) → AreReadyMarks g ready
        → HoldAllConflicts m (edges_of g) ready doubtful
    HoldAllConflicts-doubtful ready marks k j d e above at to k_ready j_ready conflict =
        let node_k = slice_get-node m g is k d at (within k d at) in
        let node_j = slice_get-node m g is j e to (within j e to) in
        let s = HasPosition-from_ready m g is order orders nodes are d (Contains-slice_get m k d at)
        (IsReady-from_mark m g is ready marks k d.id node_k k_ready) in
        let t = HasPosition-from_ready m g is order orders nodes are e (Contains-slice_get m j e to)
        (IsReady-from_mark m g is ready marks j e.id node_j j_ready) in
        let position : get_or nodes s.position 0 ≡ k = one_place _ k d d s.at at refl in
        let position' : get_or nodes t.position 0 ≡ j = one_place _ j e e t.at to refl in
        let differ : d.id ≢ e.id = λ same. let one = one_place k j d e at to same in
        omega (arith, one, above) in
        let key = conflict.0 in
        let either : (Reaches m d.id e.id ⊎ Reaches m e.id d.id)
        ⊎ ShareKey doubtful (get_or nodes s.position 0) (get_or nodes t.position 0) =
        elim conflict.1 [
          | inl first ↦
              let other = hashed_touches-touched start t.position e.ops key first.1 in
              by_key d e s t differ key true other.0
              (hashed_touches-written start s.position d.ops key first.0) other.1 (inl refl)
          | inr second ↦
              let other = hashed_touches-touched start s.position d.ops key second.0 in
              by_key d e s t differ key other.0 true other.1
              (hashed_touches-written start t.position e.ops key second.1) (inr refl)
        ] in
        elim either [
          | inl related ↦ inl (elim related [
            | inl there ↦ inl ((NodeReaches-iff m g is k j d.id e.id node_k node_j).1 there)
            | inr back ↦ inr ((NodeReaches-iff m g is j k e.id d.id node_j node_k).1 back)
          ])
          | inr share ↦ inr (subst₂ (ShareKey doubtful) position position' share)
        ]
