-- A map has at most one execution order, and the order is lawful.
use Rattle.std.proofs.Common.{◌≡◌, ◌<◌, ◌≤◌, ℕ, true, List, map, Contains, AllPairs, Some}
use Rattle.std.proofs.Common.{slice_get, Less, Equal, nat_cmp, is_lt, refl, sym, ap, ◌∙◌, subst}
use Rattle.std.proofs.Common.{subst₂, ap₂, inl, inr, arith}
use Rattle.std.specs.Ordering.{ordering_then}
use Rattle.std.specs.Cmp.{tied_itself, nat_cmp_total, nat_cmp_is}
use Rattle.std.proofs.lemmas.Bool.{cases_lt}
use Rattle.epx_types.specs.declared.id.Id.{Id}
use Rattle.epx_types.specs.Instances.{Instance}
use Rattle.epx_types.specs.Ids.{id_cmp}
use Rattle.epx_types.specs.Readiness.{IsReady}
use Rattle.epx_types.specs.Components.{IsLeader, InOneComponent}
use Rattle.epx_types.specs.Depth.{IsDepth}
use Rattle.epx_types.specs.Reaching.{Reaches}
use Rattle.epx_types.specs.ExecutionOrder.{Ranked, RanksBelow, IsRanked, IsExecutionOrder}
use Rattle.epx_types.specs.LawfulOrders.{Before, SequenceBefore, IsLawful}
use Rattle.epx_types.proofs.lists.MembershipLemmas.{Contains-from_map}
use Rattle.epx_types.proofs.lists.ListPositionLemmas.{Contains-slice_get, slice_get-from_Contains}
use Rattle.epx_types.proofs.lists.ListPositionLemmas.{slice_get-map, slice_get-from_map}
use Rattle.epx_types.proofs.lists.ListPositionLemmas.{AllPairs-slice_get, AllPairs-from_slice_get}
use Rattle.epx_types.proofs.lists.TotalOrderLemmas.{is_lt-irrefl, is_lt-trans, is_lt-asymm}
use Rattle.epx_types.proofs.lists.TotalOrderLemmas.{AllPairs-is_unique}
use Rattle.epx_types.proofs.lists.ComparisonLemmas.{id_cmp-IsTotalOrder, rank_cmp-IsTotalOrder}
use Rattle.epx_types.proofs.graph.ReachingLemmas.{IsLeader-along, IsLeader-unique, IsDepth-along}
use Rattle.epx_types.proofs.graph.ReachingLemmas.{IsDepth-unique, IsDepth-falls, IsReady-reached}

-- two positions of an order are in the order of their ranks
pub Before-from_rank : (order : List Ranked) → AllPairs RanksBelow order → (a b : Ranked)
    → Contains order a → Contains order b → RanksBelow a b
    → Before (map (λ r. r.id) order) a.id b.id
Before-from_rank order rising a b in_a in_b lower =
    let i = slice_get-from_Contains order a in_a in
    let j = slice_get-from_Contains order b in_b in
    elim (cases_lt i.0 j.0) [
      | inl l ↦ (
        i.0,
        j.0,
        l,
        slice_get-map (λ r. r.id) order i.0 a i.1,
        slice_get-map (λ r. r.id) order j.0 b j.1,
      )
      | inr l ↦ absurd (by j.0 i.0 l j.1 i.1)
    ]
  where
    by : (j i : ℕ) → j ≤ i → slice_get order j ≡ Some b → slice_get order i ≡ Some a → ⊥
    by j i l p q =
        elim (cases_lt j i) [
          | inl k ↦ is_lt-asymm rank_cmp-IsTotalOrder a b lower
              (AllPairs-slice_get RanksBelow order rising j i b a k p q)
          | inr k ↦
              let e : j ≡ i = omega arith in
              let same : a ≡ b = cc in
              is_lt-irrefl rank_cmp-IsTotalOrder a (subst (RanksBelow a) (sym same) lower)
        ]

-- a lower depth is a lower rank; at the same depth and leader, a lower sequence number is a lower
-- rank
lower_by_depth : (a b : Ranked) → a.depth < b.depth → RanksBelow a b
lower_by_depth a b l =
    let less : Less ≡ nat_cmp a.depth b.depth = nat_cmp_is a.depth b.depth Less l in
    rw (← less) refl

lower_by_sequence : (a b : Ranked) → a.depth ≡ b.depth → a.leader ≡ b.leader
    → is_lt (ordering_then (nat_cmp a.seq b.seq) (id_cmp a.id b.id)) ≡ true → RanksBelow a b
lower_by_sequence a b d l lower =
    let depth : nat_cmp a.depth b.depth ≡ Equal =
    ap (nat_cmp a.depth) (sym d) ∙ tied_itself nat_cmp_total a.depth in
    let leader : id_cmp a.leader b.leader ≡ Equal =
    ap (id_cmp a.leader) (sym l) ∙ tied_itself id_cmp-IsTotalOrder a.leader in
    ap (λ r. is_lt
    (ordering_then r (ordering_then (id_cmp a.leader b.leader)
    (ordering_then (nat_cmp a.seq b.seq) (id_cmp a.id b.id))))) depth
    ∙ ap (λ r. is_lt (ordering_then r (ordering_then (nat_cmp a.seq b.seq) (id_cmp a.id b.id))))
    leader ∙ lower

module _ (m : List Instance) where
  -- an Id has at most one rank
  pub IsRanked-unique : (a b : Ranked) → IsRanked m a → IsRanked m b → a.id ≡ b.id → a ≡ b
  IsRanked-unique a b p q e =
      let committed = Contains-from_map (λ (d : Instance). d.id) m a.id p.ready.committed in
      let d = committed.0 in
      let seq : a.seq ≡ b.seq = sym (p.seq d committed.1 committed.2)
      ∙ q.seq d committed.1 (committed.2 ∙ e) in
      let L : Id → Type 0 = λ x. IsLeader m x b.leader in
      let leader = IsLeader-unique m a.id a.leader b.leader p.leader (subst L (sym e) q.leader) in
      let D : Id → Type 0 = λ x. IsDepth m x b.depth in
      let depth = IsDepth-unique m a.id a.depth b.depth p.depth (subst D (sym e) q.depth) in
      λ i. record { id = e i; seq = seq i; leader = leader i; depth = depth i }

  -- the rank of a ready Id in an execution order
  pub IsExecutionOrder-ranked : (order : List Ranked) → IsExecutionOrder m order → (x : Id)
      → IsReady m x → (r : Ranked) × Contains order r × (r.id ≡ x)
  IsExecutionOrder-ranked order h x ready =
      Contains-from_map (λ (r : Ranked). r.id) order x (h.whole x ready)

  -- an element of one execution order is in each
  pub IsExecutionOrder-contains : (order other : List Ranked) → IsExecutionOrder m order
      → IsExecutionOrder m other → (r : Ranked) → Contains order r → Contains other r
  IsExecutionOrder-contains order other p q r h =
      let found = IsExecutionOrder-ranked other q r.id (p.ranked r h).ready in
      let same = IsRanked-unique found.0 r (q.ranked found.0 found.1) (p.ranked r h) found.2 in
      let P : Ranked → Type 0 = λ s. Contains other s in
      subst P same found.1

  -- two execution orders of one map are equal
  pub IsExecutionOrder-unique : (order other : List Ranked) → IsExecutionOrder m order
      → IsExecutionOrder m other → order ≡ other
  IsExecutionOrder-unique order other p q =
      AllPairs-is_unique RanksBelow (is_lt-irrefl rank_cmp-IsTotalOrder)
      (is_lt-trans rank_cmp-IsTotalOrder) order other
      p.rising q.rising
      (IsExecutionOrder-contains order other p q) (IsExecutionOrder-contains other order q p)

  -- an Id with a lower rank comes before an Id with a higher rank
  IsExecutionOrder-before : (order : List Ranked) → IsExecutionOrder m order
      → (x y : Id) (a b : Ranked) → Contains order a → Contains order b → a.id ≡ x → b.id ≡ y
      → RanksBelow a b → Before (map (λ r. r.id) order) x y
  IsExecutionOrder-before order h x y a b in_a in_b p q lower =
      subst₂ (Before (map (λ r. r.id) order)) p q
      (Before-from_rank order h.rising a b in_a in_b lower)

  -- each Id occurs once
  pub IsExecutionOrder-once : (order : List Ranked) → IsExecutionOrder m order
      → AllPairs (λ x y. ¬ (x ≡ y)) (map (λ r. r.id) order)
  IsExecutionOrder-once order h =
      AllPairs-from_slice_get (λ x y. ¬ (x ≡ y)) (map (λ r. r.id) order) (λ i j x y l p q e.
      let a = slice_get-from_map (λ (r : Ranked). r.id) order i x p in
      let b = slice_get-from_map (λ (r : Ranked). r.id) order j y q in
      let same = IsRanked-unique a.0 b.0 (h.ranked a.0 (Contains-slice_get order i a.0 a.1))
      (h.ranked b.0 (Contains-slice_get order j b.0 b.1)) (a.2 ∙ e ∙ sym b.2) in
      let lower = AllPairs-slice_get RanksBelow order h.rising i j a.0 b.0 l a.1 b.1 in
      is_lt-irrefl rank_cmp-IsTotalOrder a.0 (subst (RanksBelow a.0) (sym same) lower))

  -- an Id comes after those that it reaches and that do not reach it
  pub IsExecutionOrder-after_reached : (order : List Ranked) → IsExecutionOrder m order
      → (x y : Id) → Contains (map (λ r. r.id) order) x → Reaches m x y → ¬ Reaches m y x
      → Before (map (λ r. r.id) order) y x
  IsExecutionOrder-after_reached order h x y in_x there back =
      let a = Contains-from_map (λ (r : Ranked). r.id) order x in_x in
      let ranked_a = h.ranked a.0 a.1 in
      let there_a = (let P : Id → Type 0 = λ w. Reaches m w y in subst P (sym a.2) there) in
      let b = IsExecutionOrder-ranked order h y
      (IsReady-reached m a.0.id y there_a ranked_a.ready) in
      let ranked_b = h.ranked b.0 b.1 in
      let there_b = (let P : Id → Type 0 = λ w. Reaches m a.0.id w in subst P (sym b.2) there_a) in
      let back_b : ¬ Reaches m b.0.id a.0.id = λ r. back (subst₂ (Reaches m) b.2 a.2 r) in
      let lower = lower_by_depth b.0 a.0
      (IsDepth-falls m a.0.id b.0.id a.0.depth b.0.depth there_b back_b ranked_a.depth
      ranked_b.depth) in
      IsExecutionOrder-before order h y x b.0 a.0 b.1 a.1 b.2 a.2 lower

  -- members of one component come in the order of their sequence numbers
  pub IsExecutionOrder-by_sequence : (order : List Ranked) → IsExecutionOrder m order → (x y : Id)
      → Contains (map (λ r. r.id) order) x → Contains (map (λ r. r.id) order) y
      → InOneComponent m x y → SequenceBefore m x y → Before (map (λ r. r.id) order) x y
  IsExecutionOrder-by_sequence order h x y in_x in_y one by =
      let a = Contains-from_map (λ (r : Ranked). r.id) order x in_x in
      let b = Contains-from_map (λ (r : Ranked). r.id) order y in_y in
      let ranked_a = h.ranked a.0 a.1 in
      let ranked_b = h.ranked b.0 b.1 in
      let one_ab = subst₂ (InOneComponent m) (sym a.2) (sym b.2) one in
      let leader = IsLeader-unique m b.0.id a.0.leader b.0.leader
      (IsLeader-along m a.0.id b.0.id a.0.leader one_ab ranked_a.leader) ranked_b.leader in
      let depth = IsDepth-unique m b.0.id a.0.depth b.0.depth
      (IsDepth-along m a.0.id b.0.id a.0.depth one_ab ranked_a.depth) ranked_b.depth in
      let seq_a : by.first.seq ≡ a.0.seq =
      ranked_a.seq by.first by.first_in (by.first_is ∙ sym a.2) in
      let seq_b : by.second.seq ≡ b.0.seq =
      ranked_b.seq by.second by.second_in (by.second_is ∙ sym b.2) in
      let lower_ab : is_lt (ordering_then (nat_cmp a.0.seq b.0.seq) (id_cmp a.0.id b.0.id))
      ≡ true = ap₂ (λ r s. is_lt (ordering_then r s)) (sym (ap₂ nat_cmp seq_a seq_b))
      (ap₂ id_cmp a.2 b.2) ∙ by.lower in
      IsExecutionOrder-before order h x y a.0 b.0 a.1 b.1 a.2 b.2
      (lower_by_sequence a.0 b.0 depth leader lower_ab)

  -- an execution order is lawful
  pub IsExecutionOrder-IsLawful : (order : List Ranked) → IsExecutionOrder m order
      → IsLawful m (map (λ r. r.id) order)
  IsExecutionOrder-IsLawful order h = record {
    once = IsExecutionOrder-once order h;
    only = λ x in_x. let a = Contains-from_map (λ (r : Ranked). r.id) order x in_x in
        (let P : Id → Type 0 = λ w. IsReady m w in subst P a.2 (h.ranked a.0 a.1).ready);
    whole = h.whole;
    after_reached = IsExecutionOrder-after_reached order h;
    by_sequence = IsExecutionOrder-by_sequence order h;
  }

  -- the leader of each instance is in the order, and is its own leader
  pub IsExecutionOrder-leaders : (order : List Ranked) → IsExecutionOrder m order → (r : Ranked)
      → Contains order r → (l : Ranked) × Contains order l × (l.id ≡ r.leader) × (l.leader ≡ l.id)
  IsExecutionOrder-leaders order h r in_r =
      let ranked = h.ranked r in_r in
      let one = ranked.leader.member in
      let l = IsExecutionOrder-ranked order h r.leader
      (IsReady-reached m r.id r.leader one.0 ranked.ready) in
      let own = IsLeader-along m r.id r.leader r.leader one ranked.leader in
      let L : Id → Type 0 = λ x. IsLeader m x l.0.leader in (
        l.0,
        l.1,
        l.2,
        IsLeader-unique m r.leader l.0.leader r.leader
            (subst L l.2 (h.ranked l.0 l.1).leader) own ∙ sym l.2,
      )
