-- Nodes that are not settled are those of an uncovered pair.
use Rattle.std.proofs.Common.{◌≡◌, ◌⊎◌, inl, inr, ℕ, ◌<◌, List, Bool, length, slice_get, Some}
use Rattle.std.proofs.Common.{Contains, refl, sym, subst, ap, ◌∙◌, arith}
use Rattle.epx_types.proofs.Common.{cases_lt, slice_get_within, IsRising, Instance, Conflict}
use Rattle.epx_types.proofs.Common.{IsCovered, Reaches, IsReady, IsRising-same, Conflict-symm}
use Rattle.epx_types.proofs.Common.{Contains-slice_get}
use Rattle.epx_types.specs.declared.id.Id.{Id}
use Rattle.epx_graph.proofs.Common.{DependencyGraph, edges_of, IsGraphOf, committed-count}
use Rattle.epx_graph.proofs.Common.{slice_get-instance, slice_get-if_committed, Below-iff_node}
use Rattle.epx_graph.proofs.Common.{NodeReaches-iff}
use Rattle.epx_audit.specs.inner.NodeConflicts.{IsSettled, IsUnsettled, IsPartner}
use Rattle.epx_components.specs.between.ReadyMarks.{AreReadyMarks}
use Rattle.epx_audit.specs.Uncovered.{IsUncovered, IsLeastUncovered}
use Rattle.epx_components.proofs.ReadyMarkLemmas.{IsReady-from_mark, is_marked-from_ready}
use Rattle.epx_components.proofs.ReadyRankLemmas.{slice_get-node}

module _ (m : List Instance) (g : DependencyGraph) (is : IsGraphOf m g) (ready : List Bool)
    (marked : AreReadyMarks g ready) where
  -- the instance at the position of its node
  instance_at : (k : ℕ) (x : Id) (d : Instance) → slice_get g.ids k ≡ Some x → k < g.committed
      → Contains m d → d.id ≡ x → slice_get m k ≡ Some d
  instance_at k x d at l in_d same =
      let rising = subst IsRising is.committed is.graph.committed_rise in
      let f = slice_get-instance m g is k x at l in
      f.1 ∙ ap Some (IsRising-same m rising f.0 d (Contains-slice_get m k f.0 f.1) in_d
      (f.2 ∙ sym same))

  -- node k is the ready instance d, which has the Id x
  record IsReadyNode (k : ℕ) (x : Id) (d : Instance) : Type 0 where
    at : slice_get g.ids k ≡ Some x
    committed : k < g.committed
    among : Contains m d
    same : d.id ≡ x
    ready_x : IsReady m x

  -- if the nodes of two instances that conflict are settled, one instance reaches the other
  Reaches-if_settled : (k j : ℕ) (x y : Id) (d e : Instance) → IsReadyNode k x d
      → IsReadyNode j y e → Conflict d.ops e.ops → IsSettled m (edges_of g) ready k j
      → Reaches m x y ⊎ Reaches m y x
  Reaches-if_settled k j x y d e one other conflict settled =
      elim (settled d e (instance_at k x d one.at one.committed one.among one.same)
      (instance_at j y e other.at other.committed other.among other.same)
      (is_marked-from_ready m g is ready marked k x one.at one.ready_x)
      (is_marked-from_ready m g is ready marked j y other.at other.ready_x) conflict) [
        | inl there ↦ inl ((NodeReaches-iff m g is k j x y one.at other.at).0 there)
        | inr back ↦ inr ((NodeReaches-iff m g is j k y x other.at one.at).0 back)
      ]

  pub IsCovered-from_settled : ((k j : ℕ) → k < length m → k < j
      → IsSettled m (edges_of g) ready k j) → IsCovered m
  IsCovered-from_settled settled d e in_d in_e differ d_ready e_ready conflict =
      let k = slice_get-if_committed m g is d.id d_ready.committed in
      let j = slice_get-if_committed m g is e.id e_ready.committed in
      let count = committed-count m g is in
      let one : IsReadyNode k.0 d.id d =
      record { at = k.2; committed = k.1; among = in_d; same = refl; ready_x = d_ready } in
      let two : IsReadyNode j.0 e.id e =
      record { at = j.2; committed = j.1; among = in_e; same = refl; ready_x = e_ready } in
      elim (cases_lt k.0 j.0) [
        | inl lower ↦ Reaches-if_settled k.0 j.0 d.id e.id d e one two conflict
            (settled k.0 j.0 (omega (arith, count, k.1)) lower)
        | inr upto ↦ elim (cases_lt j.0 k.0) [
          | inl lower ↦ elim (Reaches-if_settled j.0 k.0 e.id d.id e d two one
              (Conflict-symm d.ops e.ops conflict)
              (settled j.0 k.0 (omega (arith, count, j.1)) lower)) [
                | inl there ↦ inr there
                | inr back ↦ inl back
              ]
          | inr other ↦
              let equal : k.0 ≡ j.0 = omega arith in
              let same : Some d.id ≡ Some e.id = sym k.2 ∙ ap (slice_get g.ids) equal ∙ j.2 in
              absurd (differ (cc same))
        ]
      ]

  -- if the nodes of two instances are settled, they are no uncovered pair
  not_uncovered : (k j : ℕ) (x y : Id) → slice_get g.ids k ≡ Some x → slice_get g.ids j ≡ Some y
      → k < g.committed → j < g.committed → IsSettled m (edges_of g) ready k j
      → ¬ IsUncovered m x y
  not_uncovered k j x y at to l n settled bad =
      let (d, e, in_d, in_e, is_x, is_y, conflict) = bad.conflict in
      let one : IsReadyNode k x d =
      record { at = at; committed = l; among = in_d; same = is_x; ready_x = bad.ready.0 } in
      let two : IsReadyNode j y e =
      record { at = to; committed = n; among = in_e; same = is_y; ready_x = bad.ready.1 } in
      elim (Reaches-if_settled k j x y d e one two conflict settled) [
        | inl there ↦ bad.apart.0 there
        | inr back ↦ bad.apart.1 back
      ]

  pub IsLeastUncovered-from_partner : (k j : ℕ) (x y : Id) → slice_get g.ids k ≡ Some x
      → slice_get g.ids j ≡ Some y
      → ((i n : ℕ) → i < k → i < n → IsSettled m (edges_of g) ready i n)
      → IsPartner m (edges_of g) ready k j → IsLeastUncovered m x y
  IsLeastUncovered-from_partner k j x y at to before partner = record {
    rises = (Below-iff_node m g is k j x y at to l n).0 partner.above;
    uncovered = record {
      ready = (
        IsReady-from_mark m g is ready marked k x at bad.both_ready.0,
        IsReady-from_mark m g is ready marked j y to bad.both_ready.1,
      );
      conflict = (
        d,
        e,
        Contains-slice_get m k d at_d,
        Contains-slice_get m j e at_e,
        is_x,
        is_y,
        bad.conflict.4,
      );
      apart = (
        (λ there. bad.apart.0 ((NodeReaches-iff m g is k j x y at to).1 there)),
        (λ back. bad.apart.1 ((NodeReaches-iff m g is j k y x to at).1 back)),
      );
    };
    least = λ v w below other.
        let i = slice_get-if_committed m g is v other.ready.0.committed in
        let q = slice_get-if_committed m g is w other.ready.1.committed in
        let rises = (Below-iff_node m g is i.0 q.0 v w i.2 q.2 i.1 q.1).1 below in
        elim (cases_lt i.0 k) [
          | inl lower ↦ absurd
              (not_uncovered i.0 q.0 v w i.2 q.2 i.1 q.1 (before i.0 q.0 lower rises) other)
          | inr not_lower ↦ elim (cases_lt k i.0) [
            | inl higher ↦ inl ((Below-iff_node m g is k i.0 x v at i.2 l i.1).0 higher)
            | inr not_higher ↦
                let one : i.0 ≡ k = omega arith in
                let first : Some x ≡ Some v = sym at ∙ ap (slice_get g.ids) (sym one) ∙ i.2 in
                elim (cases_lt q.0 j) [
                  | inl less ↦ absurd
                      (not_uncovered i.0 q.0 v w i.2 q.2 i.1 q.1
                      (subst (λ k. IsSettled m (edges_of g) ready k q.0) (sym one)
                      (partner.least q.0 (omega arith) less)) other)
                  | inr not_less ↦ elim (cases_lt j q.0) [
                    | inl more ↦ inr
                        (cc first, inr ((Below-iff_node m g is j q.0 y w to q.2 n q.1).0 more))
                    | inr not_more ↦
                        let two : j ≡ q.0 = omega arith in
                        let second : Some y ≡ Some w = sym to ∙ ap (slice_get g.ids) two ∙ q.2 in
                        inr (cc first, inl (cc second))
                  ]
                ]
          ]
        ];
  } where
    bad : IsUnsettled m (edges_of g) ready k j
    bad = partner.unsettled

    d : Instance
    d = bad.conflict.0

    e : Instance
    e = bad.conflict.1

    at_d : slice_get m k ≡ Some d
    at_d = bad.conflict.2

    at_e : slice_get m j ≡ Some e
    at_e = bad.conflict.3

    l : k < g.committed
    l = omega (arith, slice_get_within m k d at_d, committed-count m g is)

    n : j < g.committed
    n = omega (arith, slice_get_within m j e at_e, committed-count m g is)

    is_x : d.id ≡ x
    is_x = let same : Some d.id ≡ Some x = sym (slice_get-node m g is k d at_d l) ∙ at in cc same

    is_y : e.id ≡ y
    is_y = let same : Some e.id ≡ Some y = sym (slice_get-node m g is j e at_e n) ∙ to in cc same
