-- What the nodes of a list say about its instances.
use Rattle.std.proofs.Common.{◌≡◌, ℕ, ◌<◌, inl, inr, List, Bool, length, get_or, slice_get, Some}
use Rattle.std.proofs.Common.{sym, ◌∙◌, ap, arith, IsTrue, Contains, All}
use Rattle.epx_types.proofs.Common.{cases_lt, All-from_get_or, slice_get_within, slice_get-get_or}
use Rattle.epx_types.proofs.Common.{Instance, Contains-slice_get, slice_get-from_Contains}
use Rattle.epx_types.specs.declared.id.Id.{Id}
use Rattle.epx_graph.proofs.Common.{DependencyGraph, IsGraphOf, ids-is_unique, committed-count}
use Rattle.epx_graph.proofs.Common.{IsCommitted-iff_node, slice_get-if_committed, Below-iff_node}
use Rattle.epx_ranking.specs.inner.NodeLists.{AreListed, IsListedIfReady, IsListingFault}
use Rattle.epx_ranking.specs.PrefixFaults.{IsPrefixFault}
use Rattle.epx_ranking.specs.OrderFaults.{HasAllReady, IsOrderFault, ReadyOnce}
use Rattle.epx_components.specs.between.ReadyMarks.{is_marked, AreReadyMarks}
use Rattle.epx_ranking.specs.declared.order_fault.OrderFault.{OrderFault}
use Rattle.epx_ranking.specs.declared.order_fault.OrderFault.TheVariants.{Memory, Stranger, Repeat}
use Rattle.epx_ranking.specs.declared.order_fault.OrderFault.TheVariants.{Missing, Early, Sequence}
use Rattle.epx_components.proofs.ReadyMarkLemmas.{IsReady-from_mark, is_marked-from_ready}

-- a place that is wrong by itself is the fault of the list, as an order and as a prefix
pub IsOrderFault-from_listing : (m : List Instance) (ids : List Id) (f : OrderFault)
    → IsListingFault m ids f → IsOrderFault m ids f
IsOrderFault-from_listing m ids Memory h = tt
IsOrderFault-from_listing m ids (Stranger i) h = h
IsOrderFault-from_listing m ids (Repeat i) h = h
IsOrderFault-from_listing m ids (Missing x) h = absurd h
IsOrderFault-from_listing m ids (Early i) h = absurd h
IsOrderFault-from_listing m ids (Sequence i) h = absurd h

pub IsPrefixFault-from_listing : (m : List Instance) (ids : List Id) (f : OrderFault)
    → IsListingFault m ids f → IsPrefixFault m ids f
IsPrefixFault-from_listing m ids Memory h = tt
IsPrefixFault-from_listing m ids (Stranger i) h = h
IsPrefixFault-from_listing m ids (Repeat i) h = h
IsPrefixFault-from_listing m ids (Missing x) h = absurd h
IsPrefixFault-from_listing m ids (Early i) h = absurd h
IsPrefixFault-from_listing m ids (Sequence i) h = absurd h

module _ (m : List Instance) (g : DependencyGraph) (is : IsGraphOf m g) (ids : List Id)
    (nodes : List ℕ) (marks : List Bool) (listed : AreListed g ids (length ids) nodes marks) where
  -- an instance is in the list exactly if its node is marked
  pub Contains-from_mark : (k : ℕ) (x : Id) → slice_get g.ids k ≡ Some x
      → IsTrue (is_marked marks k)
      → Contains ids x
  Contains-from_mark k x at h =
      let i = (listed.marked k).0 h in
      let there = slice_get-get_or ids i.0 x i.1 in
      let node = listed.each i.0 (get_or ids i.0 x) i.1 there in
      let same : Some (get_or ids i.0 x) ≡ Some x = sym node ∙ ap (slice_get g.ids) i.2 ∙ at in
      Contains-slice_get ids i.0 x (there ∙ same)

  pub is_marked-from_listed : (k : ℕ) (x : Id) → slice_get g.ids k ≡ Some x → Contains ids x
      → IsTrue (is_marked marks k)
  is_marked-from_listed k x at h =
      let i = slice_get-from_Contains ids x h in
      let l = slice_get_within ids i.0 x i.1 in
      (listed.marked k).1
      (i.0, l, ids-is_unique g is.graph (get_or nodes i.0 0) k x (listed.each i.0 x l i.1) at)

  module _ (ready : List Bool) (marked : AreReadyMarks g ready) where
    pub HasAllReady-from_marks : ((k : ℕ) → IsListedIfReady ready marks k) → HasAllReady m ids
    HasAllReady-from_marks all x h =
        let k = slice_get-if_committed m g is x h.committed in
        Contains-from_mark k.0 x k.2
        (all k.0 (is_marked-from_ready m g is ready marked k.0 x k.2 h))

    pub IsOrderFault-missing : (k : ℕ) (x : Id) → slice_get g.ids k ≡ Some x
        → IsTrue (is_marked ready k)
        → ¬ IsTrue (is_marked marks k) → ((j : ℕ) → j < k → IsListedIfReady ready marks j)
        → ReadyOnce m ids (length ids) → IsOrderFault m ids (Missing x)
    IsOrderFault-missing k x at h out before once =
        let is_ready = IsReady-from_mark m g is ready marked k x at h in
        let in' = (IsCommitted-iff_node m g is k x at).1 is_ready.committed in (
          once,
          is_ready,
          (λ there. out (is_marked-from_listed k x at there)),
          λ y y_ready y_out.
              let j = slice_get-if_committed m g is y y_ready.committed in
              elim (cases_lt j.0 k) [
                | inl lower ↦ absurd
                    (y_out (Contains-from_mark j.0 y j.2
                    (before j.0 lower
                    (is_marked-from_ready m g is ready marked j.0 y j.2 y_ready))))
                | inr not_lower ↦ elim (cases_lt k j.0) [
                  | inl higher ↦ inr ((Below-iff_node m g is k j.0 x y at j.2 in' j.1).0 higher)
                  | inr not_higher ↦
                      let one : k ≡ j.0 = omega arith in
                      let same : Some x ≡ Some y = sym at ∙ ap (slice_get g.ids) one ∙ j.2 in
                      inl (cc same)
                ]
              ],
        )

  -- the nodes of ready instances are committed, and are positions of the map
  pub nodes-committed : ReadyOnce m ids (length ids) → All (λ k. k < length m) nodes
  nodes-committed once = All-from_get_or (λ k. k < length m) nodes 0 (λ i l.
      let in' : i < length ids = omega (arith, l, listed.whole) in
      let none : Id = record { replica = 0; number = 0 } in
      let x = get_or ids i none in
      let at = slice_get-get_or ids i none in' in
      let node = listed.each i x in' at in
      omega (
        arith,
        (IsCommitted-iff_node m g is (get_or nodes i 0) x node).1
            (once i x in' at).0.committed,
        committed-count m g is,
      ))

  pub nodes-within : (n : ℕ) → n ≡ length g.ids → All (λ k. k < n) nodes
  nodes-within n e = All-from_get_or (λ k. k < n) nodes 0 (λ i l.
      let in' : i < length ids = omega (arith, l, listed.whole) in
      let none : Id = record { replica = 0; number = 0 } in
      let x = get_or ids i none in
      omega (
        arith,
        e,
        slice_get_within g.ids (get_or nodes i 0) x
            (listed.each i x in' (slice_get-get_or ids i none in')),
      ))
