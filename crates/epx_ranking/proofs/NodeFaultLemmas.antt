-- For a list of ready instances, each once: the order of the instances is wrong where the order of
-- their nodes is wrong.
use Rattle.std.proofs.Common.{◌≡◌, ◌≢◌, ℕ, ◌<◌, ◌≤◌, inl, inr, List, Bool, true, length, get_or}
use Rattle.std.proofs.Common.{slice_get, Option, Some, None, refl, sym, subst, subst₂, ◌∙◌, ap}
use Rattle.std.proofs.Common.{arith, is_lt, nat_cmp, Contains, IsTrue}
use Rattle.epx_types.proofs.Common.{ordering_then, cases_lt, cases_Bool, false≢true, All-get_or}
use Rattle.epx_types.proofs.Common.{slice_get_within, slice_get-get_or, id_cmp, IsRising, Instance}
use Rattle.epx_types.proofs.Common.{IsLawfulPrefix, Reaches, IsReady, IsRising-same}
use Rattle.epx_types.proofs.Common.{IsReady-reached, Contains-slice_get}
use Rattle.epx_types.specs.declared.id.Id.{Id}
use Rattle.epx_graph.proofs.Common.{DependencyGraph, edges_of, IsGraphOf, NodeReaches}
use Rattle.epx_graph.proofs.Common.{IsNodePath-within, committed-count, IsCommitted-iff_node}
use Rattle.epx_graph.proofs.Common.{slice_get-instance}
use Rattle.epx_graph.proofs.Common.{slice_get-if_committed, NodeReaches-iff}
use Rattle.epx_ranking.specs.inner.Ends.{AreEnds, AreRaised, IsEndBelow}
use Rattle.epx_ranking.specs.inner.NodeLists.{AreListed, AreListedReady}
use Rattle.epx_ranking.specs.PrefixFaults.{IsTooEarlyAt, IsAfterGapAt, BeginsInOrder}
use Rattle.epx_ranking.specs.PrefixFaults.{IsOutOfSequenceAt, IsPrefixFault}
use Rattle.epx_ranking.specs.OrderFaults.{IsOvertakenAt}
use Rattle.epx_components.specs.between.Partitions.{ComponentParts, IsPartitionOf, component_of}
use Rattle.epx_components.specs.between.Partitions.{number_for}
use Rattle.epx_components.specs.between.ReadyMarks.{is_marked}
use Rattle.epx_ranking.specs.inner.SequenceKeys.{IsNodeEarlyAt, IsNodeOvertakenAt, AreNodesInOrder}
use Rattle.epx_ranking.specs.inner.SequenceKeys.{IsNodeAfterGapAt, IsNodeOutOfSequenceAt}
use Rattle.epx_ranking.specs.inner.SequenceKeys.{IsNodeFault, AreLeftOut, ComesAfter, key_for}
use Rattle.epx_ranking.specs.inner.SequenceKeys.{sequence_key_of, sequence_key_cmp}
use Rattle.epx_ranking.specs.declared.check.sequence_key.SequenceKey.{SequenceKey}
use Rattle.epx_ranking.specs.declared.order_fault.OrderFault.{OrderFault}
use Rattle.epx_ranking.specs.declared.order_fault.OrderFault.TheVariants.{Memory, Stranger, Repeat}
use Rattle.epx_ranking.specs.declared.order_fault.OrderFault.TheVariants.{Missing, Early, Sequence}
use Rattle.epx_ranking.proofs.PrefixLemmas.{IsLawfulPrefix-from_order}
use Rattle.epx_ranking.proofs.ListedNodeLemmas.{Contains-from_mark, is_marked-from_listed}
use Rattle.epx_ranking.proofs.SequenceKeyLemmas.{sequence_key_cmp-least_before}
use Rattle.epx_components.proofs.NodePathLemmas.{NodeReaches-falls, NodeReaches-trans}
use Rattle.epx_components.proofs.ReadyRankLemmas.{slice_get-node}

module _ (m : List Instance) (g : DependencyGraph) (is : IsGraphOf m g) (p : ComponentParts)
    (part : IsPartitionOf g p) (ids : List Id) (nodes : List ℕ) (marks : List Bool)
    (ready : AreListedReady m g ids nodes marks) where
  listed : AreListed g ids (length ids) nodes marks
  listed = ready.listed

  ready_at : (i : ℕ) (x : Id) → slice_get ids i ≡ Some x → IsReady m x
  ready_at i x at = (ready.once i x (slice_get_within ids i x at) at).0

  -- the node at a place is that of the instance there, and is committed
  node_of : (i : ℕ) (x : Id) → slice_get ids i ≡ Some x
      → slice_get g.ids (get_or nodes i 0) ≡ Some x
  node_of i x at = listed.each i x (slice_get_within ids i x at) at

  committed : (i : ℕ) (x : Id) → slice_get ids i ≡ Some x → get_or nodes i 0 < g.committed
  committed i x at = (IsCommitted-iff_node m g is (get_or nodes i 0) x (node_of i x at)).1
      (ready_at i x at).committed

  node_in : (i : ℕ) (x : Id) → slice_get ids i ≡ Some x → get_or nodes i 0 < length p.component
  node_in i x at =
      omega (arith, slice_get_within g.ids (get_or nodes i 0) x (node_of i x at), part.each_node)

  id_at : (i : ℕ) → i < length nodes → (x : Id) × (slice_get ids i ≡ Some x)
  id_at i l = let none : Id = record { replica = 0; number = 0 } in
      (get_or ids i none, slice_get-get_or ids i none (omega (arith, listed.whole)))

  reaches : (i j : ℕ) (x y : Id) → slice_get ids i ≡ Some x → slice_get ids j ≡ Some y
      → NodeReaches (edges_of g) (get_or nodes i 0) (get_or nodes j 0) → Reaches m x y
  reaches i j x y at to =
      (NodeReaches-iff m g is (get_or nodes i 0) (get_or nodes j 0) x y (node_of i x at)
      (node_of j y to)).0

  reaches_back : (i j : ℕ) (x y : Id) → slice_get ids i ≡ Some x → slice_get ids j ≡ Some y
      → Reaches m x y → NodeReaches (edges_of g) (get_or nodes i 0) (get_or nodes j 0)
  reaches_back i j x y at to =
      (NodeReaches-iff m g is (get_or nodes i 0) (get_or nodes j 0) x y (node_of i x at)
      (node_of j y to)).1

  falls : (k j : ℕ) → NodeReaches (edges_of g) k j → component_of p j ≤ component_of p k
  falls k j there = NodeReaches-falls (edges_of g) p.component part.is.falls k j there

  -- ---- early

  -- the node of an instance that is listed is marked
  unlisted : (k : ℕ) (x : Id) → slice_get g.ids k ≡ Some x → ¬ IsTrue (is_marked marks k)
      → ¬ Contains ids x
  unlisted k x at unmarked h =
      unmarked (is_marked-from_listed m g is ids nodes marks listed k x at h)

  -- the place of an instance whose node is marked
  place_of_marked : (k : ℕ) (x : Id) → slice_get g.ids k ≡ Some x → IsTrue (is_marked marks k)
      → (j : ℕ) × (j < length ids) × (get_or nodes j 0 ≡ k) × (slice_get ids j ≡ Some x)
  place_of_marked k x at h =
      let j = (listed.marked k).0 h in
      let there = slice_get-get_or ids j.0 x j.1 in
      let node = listed.each j.0 (get_or ids j.0 x) j.1 there in
      let same : Some (get_or ids j.0 x) ≡ Some x = sym node ∙ ap (slice_get g.ids) j.2 ∙ at in
      (j.0, j.1, j.2, there ∙ same)

  node_below : (k : ℕ) → k < length m → k < length p.component
  node_below k l =
      omega (arith, l, committed-count m g is, part.each_node, is.graph.committed_nodes)

  id_of : (k : ℕ) (e : Instance) → slice_get m k ≡ Some e → slice_get g.ids k ≡ Some e.id
  id_of k e at = slice_get-node m g is k e at
      (omega (arith, slice_get_within m k e at, committed-count m g is))

  module _ (left_out : List (Option SequenceKey))
      (left : AreLeftOut m p marks (length m) left_out) (ends raised below : List ℕ)
      (are_ends : AreEnds p nodes (length nodes) ends)
      (are_raised : AreRaised left_out (length nodes) ends raised)
      (are_below : (k : ℕ) → k < length g.ids
      → IsEndBelow (edges_of g) p raised k (number_for p below k)) where
    -- a node of another component that a place reaches, and that is at no earlier place
    early_at : (i : ℕ) (x : Id) → slice_get ids i ≡ Some x → (j q : ℕ) (y : Id)
        → j < length p.component → NodeReaches (edges_of g) (get_or nodes i 0) j
        → component_of p j ≢ component_of p (get_or nodes i 0) → q < length p.component
        → component_of p q ≡ component_of p j → slice_get g.ids q ≡ Some y
        → ((earlier : ℕ) → earlier < i → slice_get ids earlier ≢ Some y) → IsTooEarlyAt m ids i
    early_at i x at j q y j_in there apart q_in same at_q none =
        let k = get_or nodes i 0 in
        let on = part.is.joined j q j_in q_in (sym same) in record {
          id = x;
          reached = y;
          here = at;
          reaches = (NodeReaches-iff m g is k q x y (node_of i x at) at_q).0
              (NodeReaches-trans (edges_of g) k j q there on);
          outside = λ back. apart
              (omega (
                arith,
                falls q k ((NodeReaches-iff m g is q k y x at_q (node_of i x at)).1 back),
                falls k j there,
                same,
              ));
          not_before = none;
        }

    early_by : (i : ℕ) → i < length nodes → (j : ℕ) → j < length p.component
        → NodeReaches (edges_of g) (get_or nodes i 0) j
        → component_of p j ≢ component_of p (get_or nodes i 0) → i < number_for p raised j
        → (o : Option SequenceKey) → key_for p left_out j ≡ o → IsTooEarlyAt m ids i
    early_by i l j j_in there apart ahead None e =
        let x = id_at i l in
        let end : number_for p raised j ≡ number_for p ends j =
        are_raised.complete (component_of p j) e in
        elim (are_ends.one j j_in) [
          | inl none ↦ absurd (omega (arith, none, end, ahead))
          | inr (q, q_l, same, at_q) ↦
              let y = id_at q q_l in
              let later : i < q = elim (cases_lt i q) [
                | inl less ↦ less
                | inr upto ↦ let one : q ≡ i = omega (arith, ahead, end, at_q) in
                    absurd (apart (sym same ∙ ap (λ i. component_of p (get_or nodes i 0)) one))
              ] in
              early_at i x.0 x.1 j (get_or nodes q 0) y.0 j_in there apart (node_in q y.0 y.1) same
              (node_of q y.0 y.1)
              (λ earlier lower found.
              (ready.once q y.0 (slice_get_within ids q y.0 y.1) y.1).1 earlier
              (omega (arith, lower, later)) found)
        ]
    early_by i l j j_in there apart ahead (Some t) e =
        let x = id_at i l in
        let out = left.from j t e in
        let at_q = id_of out.0 out.1 out.5 in
        early_at i x.0 x.1 j out.0 out.1.id j_in there apart (node_below out.0 out.2) out.4 at_q
        (λ earlier lower found. unlisted out.0 out.1.id at_q out.3
        (Contains-slice_get ids earlier out.1.id found))

    pub IsTooEarlyAt-from_node : (i : ℕ) → i < length nodes → IsNodeEarlyAt p below nodes i
        → IsTooEarlyAt m ids i
    IsTooEarlyAt-from_node i l ahead =
        let x = id_at i l in
        let k = get_or nodes i 0 in
        let k_in = slice_get_within g.ids k x.0 (node_of i x.0 x.1) in
        elim (are_below k k_in).one [
          | inl none ↦ absurd (omega (arith, none, ahead))
          | inr (j, there, apart, end) ↦
              early_by i l j
              (omega (
                arith,
                part.each_node,
                IsNodePath-within g is.graph k there.0 j k_in there.1,
              )) there apart (omega (arith, end, ahead)) (key_for p left_out j) refl
        ]

    -- where something at no earlier place ends after this place
    end_after : (i : ℕ) (y : Id) (n : ℕ) → i < length ids → slice_get g.ids n ≡ Some y
        → (e : Instance) → slice_get m n ≡ Some e
        → ((earlier : ℕ) → earlier < i → slice_get ids earlier ≢ Some y)
        → (o : Option SequenceKey) → key_for p left_out n ≡ o → i < number_for p raised n
    end_after i y n l at e at_e none (Some t) out =
        let in' = node_below n (slice_get_within m n e at_e) in
        let c_in : component_of p n < length ends = omega (
          arith,
          are_ends.whole,
          All-get_or (λ c. c < p.count) p.component n 0 in' part.is.counted,
        ) in
        omega (arith, l, listed.whole, are_raised.incomplete (component_of p n) t c_in out)
    end_after i y n l at e at_e none None out =
        let end : number_for p raised n ≡ number_for p ends n =
        are_raised.complete (component_of p n) out in
        elim (cases_Bool (is_marked marks n)) [
          | inl marked ↦
              let j = place_of_marked n y at marked in
              let high = are_ends.all j.0 (omega (arith, j.1, listed.whole)) in
              let own : number_for p ends (get_or nodes j.0 0) ≡ number_for p ends n =
              ap (number_for p ends) j.2 in
              elim (cases_lt j.0 i) [
                | inl lower ↦ absurd (none j.0 lower j.3)
                | inr upto ↦ omega (arith, upto, high, own, end)
              ]
          | inr unmarked ↦
              let found = left.under n e (slice_get_within m n e at_e)
              (λ h. false≢true (sym unmarked ∙ h)) at_e in
              let same : None ≡ Some found.0 = sym out ∙ found.1 in absurd (cc same)
        ]

    pub IsNodeEarlyAt-from_ids : (i : ℕ) → IsTooEarlyAt m ids i → IsNodeEarlyAt p below nodes i
    IsNodeEarlyAt-from_ids i early =
        let x = early.id in
        let y = early.reached in
        let at = early.here in
        let k = get_or nodes i 0 in
        let n = slice_get-if_committed m g is y
        (IsReady-reached m x y early.reaches (ready_at i x at)).committed in
        let e = slice_get-instance m g is n.0 y n.2 n.1 in
        let n_in = node_below n.0 (slice_get_within m n.0 e.0 e.1) in
        let apart : component_of p n.0 ≢ component_of p k =
        λ same. early.outside
        ((NodeReaches-iff m g is n.0 k y x n.2 (node_of i x at)).0
        (part.is.joined n.0 k n_in (node_in i x at) same)) in
        let k_in = slice_get_within g.ids k x (node_of i x at) in
        let under = (are_below k k_in).all n.0
        ((NodeReaches-iff m g is k n.0 x y (node_of i x at) n.2).1 early.reaches) apart in
        let after = end_after i y n.0 (slice_get_within ids i x at) n.2 e.0 e.1 early.not_before
        (key_for p left_out n.0) refl in
        omega (arith, under, after)

  -- ---- overtaken

  pub IsOvertakenAt-from_node : (i : ℕ) → i < length nodes → IsNodeOvertakenAt m p nodes i
      → IsOvertakenAt m ids i
  IsOvertakenAt-from_node i l (j, earlier, same, (d, e, at_d, at_e, lower)) =
      let x = id_at i l in
      let y = id_at j (omega (arith, l, earlier)) in
      let at_x : slice_get ids i ≡ Some d.id =
      x.1 ∙ sym (node_of i x.0 x.1) ∙ slice_get-node m g is (get_or nodes i 0) d at_d
      (committed i x.0 x.1) in
      let at_y : slice_get ids j ≡ Some e.id =
      y.1 ∙ sym (node_of j y.0 y.1) ∙ slice_get-node m g is (get_or nodes j 0) e at_e
      (committed j y.0 y.1) in
      let there = part.is.joined (get_or nodes i 0) (get_or nodes j 0) (node_in i x.0 x.1)
      (node_in j y.0 y.1) (sym same) in
      let back = part.is.joined (get_or nodes j 0) (get_or nodes i 0) (node_in j y.0 y.1)
      (node_in i x.0 x.1) same in record {
        id = d.id;
        follower = e.id;
        here = at_x;
        one_component = (
          reaches i j d.id e.id at_x at_y there,
          reaches j i e.id d.id at_y at_x back,
        );
        by_sequence = record {
          first = d;
          second = e;
          first_in = Contains-slice_get m (get_or nodes i 0) d at_d;
          first_is = refl;
          second_in = Contains-slice_get m (get_or nodes j 0) e at_e;
          second_is = refl;
          lower = lower;
        };
        earlier = j;
        is_earlier = earlier;
        there = at_y;
      }

  -- the instance at a place of the list
  instance_at : (i : ℕ) (x : Id) (d : Instance) → slice_get ids i ≡ Some x → Contains m d
      → d.id ≡ x → slice_get m (get_or nodes i 0) ≡ Some d
  instance_at i x d at in_d same =
      let rising = subst IsRising is.committed is.graph.committed_rise in
      let f = slice_get-instance m g is (get_or nodes i 0) x (node_of i x at) (committed i x at) in
      f.1 ∙ ap Some (IsRising-same m rising f.0 d (Contains-slice_get m (get_or nodes i 0) f.0 f.1)
      in_d (f.2 ∙ sym same))

  pub IsNodeOvertakenAt-from_ids : (i : ℕ) → IsOvertakenAt m ids i → IsNodeOvertakenAt m p nodes i
  IsNodeOvertakenAt-from_ids i overtaken =
      let x = overtaken.id in
      let y = overtaken.follower in
      let at = overtaken.here in
      let one = overtaken.one_component in
      let by = overtaken.by_sequence in
      let j = overtaken.earlier in
      let to = overtaken.there in
      let k = get_or nodes i 0 in
      let n = get_or nodes j 0 in
      let same : component_of p n ≡ component_of p k =
      omega (
        arith,
        falls k n (reaches_back i j x y at to one.0),
        falls n k (reaches_back j i y x to at one.1),
      ) in (
        j,
        overtaken.is_earlier,
        same,
        (
          by.first,
          by.second,
          instance_at i x by.first at by.first_in by.first_is,
          instance_at j y by.second to by.second_in by.second_is,
          subst₂
              (λ x y. is_lt (ordering_then (nat_cmp by.first.seq by.second.seq) (id_cmp x y))
              ≡ true) (sym by.first_is) (sym by.second_is) by.lower,
        ),
      )

  -- ---- after a gap

  -- the instance at the place of a node
  instance_of_node : (k : ℕ) (x : Id) (d : Instance) → slice_get g.ids k ≡ Some x
      → k < g.committed → Contains m d → d.id ≡ x → slice_get m k ≡ Some d
  instance_of_node k x d at l in_d same =
      let rising = subst IsRising is.committed is.graph.committed_rise in
      let f = slice_get-instance m g is k x at l in
      f.1 ∙ ap Some (IsRising-same m rising f.0 d (Contains-slice_get m k f.0 f.1) in_d
      (f.2 ∙ sym same))

  module _ (left_out : List (Option SequenceKey))
      (left : AreLeftOut m p marks (length m) left_out) where
    pub IsAfterGapAt-from_node : (i : ℕ) → i < length nodes → IsNodeAfterGapAt m p left_out nodes i
        → IsAfterGapAt m ids i
    IsAfterGapAt-from_node i l (e, at_e, after) =
        by (key_for p left_out (get_or nodes i 0)) refl after where
          by : (o : Option SequenceKey) → key_for p left_out (get_or nodes i 0) ≡ o
              → ComesAfter (sequence_key_of e) o → IsAfterGapAt m ids i
          by None none h = absurd h
          by (Some t) found h =
              let k = get_or nodes i 0 in
              let out = left.from k t found in
              let q = out.0 in
              let d = out.1 in
              let x = id_at i l in
              let at_k = id_of k e at_e in
              let at_q = id_of q d out.5 in
              let at_x : slice_get ids i ≡ Some e.id = x.1 ∙ sym (node_of i x.0 x.1) ∙ at_k in
              let k_in = node_in i x.0 x.1 in
              let q_in = node_below q out.2 in record {
                id = e.id;
                left_out = d.id;
                here = at_x;
                one_component = (
                  (NodeReaches-iff m g is q k d.id e.id at_q at_k).0
                      (part.is.joined q k q_in k_in out.4),
                  (NodeReaches-iff m g is k q e.id d.id at_k at_q).0
                      (part.is.joined k q k_in q_in (sym out.4)),
                );
                by_sequence = record {
                  first = d;
                  second = e;
                  first_in = Contains-slice_get m q d out.5;
                  first_is = refl;
                  second_in = Contains-slice_get m k e at_e;
                  second_is = refl;
                  lower = subst (λ t. is_lt (sequence_key_cmp t (sequence_key_of e)) ≡ true)
                      (sym out.6) h;
                };
                absent = unlisted q d.id at_q out.3;
              }

    pub IsNodeAfterGapAt-from_ids : (i : ℕ) → IsAfterGapAt m ids i
        → IsNodeAfterGapAt m p left_out nodes i
    IsNodeAfterGapAt-from_ids i gap =
        let x = gap.id in
        let y = gap.left_out in
        let at = gap.here in
        let by = gap.by_sequence in
        let k = get_or nodes i 0 in
        let n = slice_get-if_committed m g is y
        (IsReady-reached m x y gap.one_component.1 (ready_at i x at)).committed in
        let at_n = instance_of_node n.0 y by.first n.2 n.1 by.first_in by.first_is in
        let at_k = instance_at i x by.second at by.second_in by.second_is in
        let found = left.under n.0 by.first (slice_get_within m n.0 by.first at_n)
        (λ h. gap.absent (Contains-from_mark m g is ids nodes marks listed n.0 y n.2 h)) at_n in
        let same : component_of p n.0 ≡ component_of p k =
        omega (
          arith,
          falls n.0 k ((NodeReaches-iff m g is n.0 k y x n.2 (node_of i x at)).1
              gap.one_component.0),
          falls k n.0 ((NodeReaches-iff m g is k n.0 x y (node_of i x at) n.2).1
              gap.one_component.1),
        ) in
        let here : key_for p left_out k ≡ Some found.0 =
        ap (λ c. get_or left_out c None) (sym same) ∙ found.1 in
        let lower = subst₂
        (λ x y. is_lt (ordering_then (nat_cmp by.first.seq by.second.seq) (id_cmp x y)) ≡ true)
        (sym by.first_is) (sym by.second_is) by.lower in (
          by.second,
          at_k,
          subst (ComesAfter (sequence_key_of by.second)) (sym here)
              (sequence_key_cmp-least_before (sequence_key_of by.first) (sequence_key_of by.second)
              found.0 lower
              found.2),
        )

    pub IsOutOfSequenceAt-from_node : (i : ℕ) → i < length nodes
        → IsNodeOutOfSequenceAt m p left_out nodes i → IsOutOfSequenceAt m ids i
    IsOutOfSequenceAt-from_node i l (inl overtaken) = inl (IsOvertakenAt-from_node i l overtaken)
    IsOutOfSequenceAt-from_node i l (inr gap) = inr (IsAfterGapAt-from_node i l gap)

    pub IsNodeOutOfSequenceAt-from_ids : (i : ℕ) → IsOutOfSequenceAt m ids i
        → IsNodeOutOfSequenceAt m p left_out nodes i
    IsNodeOutOfSequenceAt-from_ids i (inl overtaken) = inl (IsNodeOvertakenAt-from_ids i overtaken)
    IsNodeOutOfSequenceAt-from_ids i (inr gap) = inr (IsNodeAfterGapAt-from_ids i gap)

  -- ---- all places

  module _ (left_out : List (Option SequenceKey))
      (left : AreLeftOut m p marks (length m) left_out) (ends raised below : List ℕ)
      (are_ends : AreEnds p nodes (length nodes) ends)
      (are_raised : AreRaised left_out (length nodes) ends raised)
      (are_below : (k : ℕ) → k < length g.ids
      → IsEndBelow (edges_of g) p raised k (number_for p below k)) where
    early_to : (i : ℕ) → i < length nodes → IsNodeEarlyAt p below nodes i → IsTooEarlyAt m ids i
    early_to = IsTooEarlyAt-from_node left_out left ends raised below are_ends are_raised are_below

    early_back : (i : ℕ) → IsTooEarlyAt m ids i → IsNodeEarlyAt p below nodes i
    early_back =
        IsNodeEarlyAt-from_ids left_out left ends raised below are_ends are_raised are_below

    pub BeginsInOrder-from_nodes : (n : ℕ) → AreNodesInOrder m p left_out below nodes n
        → BeginsInOrder m ids n
    BeginsInOrder-from_nodes n none i l = (
      λ early. (none i l).0 (early_back i early),
      λ wrong. (none i l).1 (IsNodeOutOfSequenceAt-from_ids left_out left i wrong),
    )

    pub IsLawfulPrefix-from_nodes : AreNodesInOrder m p left_out below nodes (length nodes)
        → IsLawfulPrefix m ids
    IsLawfulPrefix-from_nodes none = IsLawfulPrefix-from_order m
        (subst IsRising is.committed is.graph.committed_rise) ids ready.once
        (subst (BeginsInOrder m ids) listed.whole (BeginsInOrder-from_nodes (length nodes) none))

    pub IsPrefixFault-from_node : (f : OrderFault) → IsNodeFault m p left_out below nodes f
        → IsPrefixFault m ids f
    IsPrefixFault-from_node Memory h = tt
    IsPrefixFault-from_node (Stranger i) h = absurd h
    IsPrefixFault-from_node (Repeat i) h = absurd h
    IsPrefixFault-from_node (Missing x) h = absurd h
    IsPrefixFault-from_node (Early i) h =
        (ready.once, early_to i h.0 h.1, BeginsInOrder-from_nodes i h.2)
    IsPrefixFault-from_node (Sequence i) h = (
      ready.once,
      IsOutOfSequenceAt-from_node left_out left i h.0 h.1,
      (λ early. h.2 (early_back i early)),
      BeginsInOrder-from_nodes i h.3,
    )
