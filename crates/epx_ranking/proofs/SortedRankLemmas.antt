-- A sort of the ranks of the ready instances has the execution order as its result.
use Rattle.std.proofs.Common.{◌≡◌, ◌≢◌, ℕ, ◌<◌, List, Bool, true, map, slice_get, Some, Contains}
use Rattle.std.proofs.Common.{AllPairs, Less, Equal, Greater, is_lt, nat_cmp, refl, sym, ap, ap₂}
use Rattle.std.proofs.Common.{◌∙◌, subst, subst₂, arith, IsPermutation}
use Rattle.epx_types.proofs.Common.{ordering_reverse, ordering_then, false≢true, ranks_by}
use Rattle.epx_types.proofs.Common.{sorted_far, Contains-permutation, IsPermutation-sym}
use Rattle.epx_types.proofs.Common.{slice_get_within, get_or_from_slice_get, IsPermutation-map}
use Rattle.epx_types.proofs.Common.{IsDistinct-IsPermutation, AllPairs-from_IsDistinct}
use Rattle.epx_types.proofs.Common.{IsDistinct-from_AllPairs, id_eq-Decides, id_eq-sym}
use Rattle.epx_types.proofs.Common.{AllPairs-slice_get, Ranked, rank_cmp, RanksBelow, IsRanked}
use Rattle.epx_types.proofs.Common.{IsExecutionOrder, id_cmp, Instance, ordering_then-second_equal}
use Rattle.epx_types.proofs.Common.{id_cmp-IsAntisymmetric, rank_cmp-IsTotalOrder, Contains-map}
use Rattle.epx_types.proofs.Common.{Contains-from_map, slice_get-from_map, AllPairs-from_slice_get}
use Rattle.epx_types.specs.declared.id.Id.{Id}
use Rattle.std.specs.List.Sorted.{IsSortedBy}
use Rattle.epx_types.specs.contracts.id.IdPartialEq.TheImpl as id_eq
use Rattle.epx_types.proofs.lists.ListPositionLemmas.{slice_get-map}
use Rattle.epx_components.specs.Ranks.{ranked, ranked_all}
use Rattle.epx_ranking.specs.inner.ReadyRanks.{AreReadyRanks}
use Rattle.epx_components.specs.declared.rank.Rank.{Rank}

abbrev same_id : Id → Id → Bool
same_id = id_eq.eq-value.it

abbrev names : List Rank → List Id
names ranks = map (λ r. r.id) ranks

-- ranks of distinct instances stay such when they are moved
names_apart : (old new : List Rank) → IsPermutation old new
    → AllPairs (λ a b. a.id ≢ b.id) old → AllPairs (λ x y. x ≢ y) (names new)
names_apart old new moved once =
    let before : AllPairs (λ x y. x ≢ y) (names old) =
    AllPairs-from_slice_get (λ x y. x ≢ y) (names old) (λ i j x y l at to.
    let a = slice_get-from_map (λ (r : Rank). r.id) old i x at in
    let b = slice_get-from_map (λ (r : Rank). r.id) old j y to in
    subst₂ (λ (v w : Id). v ≢ w) a.2 b.2
    (AllPairs-slice_get (λ (r s : Rank). r.id ≢ s.id) old once i j a.0 b.0 l a.1 b.1)) in
    AllPairs-from_IsDistinct {eq = same_id} id_eq-Decides (names new)
    (IsDistinct-IsPermutation same_id id_eq-sym (names old) (names new)
    (IsPermutation-map (λ (r : Rank). r.id) old new moved)
    (IsDistinct-from_AllPairs {eq = same_id} id_eq-Decides (names old) before))

abbrev lower : Rank → Rank → Bool
lower a b = is_lt (rank_cmp (ranked a) (ranked b))

-- ranks that compare as equal are of one instance
tied_ids : (a b : Rank) → rank_cmp (ranked a) (ranked b) ≡ Equal → a.id ≡ b.id
tied_ids a b e =
    let by_id = id_cmp a.id b.id in
    let by_seq = ordering_then (nat_cmp a.seq b.seq) by_id in
    let by_leader = ordering_then (id_cmp a.leader b.leader) by_seq in
    id_cmp-IsAntisymmetric a.id b.id
    (ordering_then-second_equal (nat_cmp a.seq b.seq) by_id
    (ordering_then-second_equal (id_cmp a.leader b.leader) by_seq
    (ordering_then-second_equal (nat_cmp a.depth b.depth) by_leader e)))

module _ (new : List Rank) (apart : AllPairs (λ x y. x ≢ y) (names new))
    (sorted : IsSortedBy lower new) where
  later : (i j : ℕ) (a b : Rank) → i < j → slice_get new i ≡ Some a → slice_get new j ≡ Some b
      → RanksBelow (ranked a) (ranked b)
  later i j a b l at to =
      elim (rank_cmp (ranked a) (ranked b)) as (λ r. rank_cmp (ranked a) (ranked b) ≡ r
      → RanksBelow (ranked a) (ranked b)) [
        | Less ↦ λ e. ap is_lt e
        | Equal ↦ λ e.
            absurd (AllPairs-slice_get (λ x y. x ≢ y) (names new) apart i j a.id b.id l
            (slice_get-map (λ (r : Rank). r.id) new i a at)
            (slice_get-map (λ (r : Rank). r.id) new j b to) (tied_ids a b e))
        | Greater ↦ λ e.
            let back : lower b a ≡ true =
            ap is_lt
            (rank_cmp-IsTotalOrder.antisymm (ranked b) (ranked a) ∙ ap ordering_reverse e) in
            let far = sorted_far lower (ranks_by rank_cmp-IsTotalOrder ranked) new sorted i j a
            (omega arith) (slice_get_within new j b to) in
            absurd (false≢true (sym far ∙ ap₂ lower (get_or_from_slice_get new j b a to)
            (get_or_from_slice_get new i a a at) ∙ back))
      ] refl

  rising : AllPairs RanksBelow (ranked_all new)
  rising = AllPairs-from_slice_get RanksBelow (ranked_all new) (λ i j x y l at to.
      let a = slice_get-from_map ranked new i x at in
      let b = slice_get-from_map ranked new j y to in
      subst₂ RanksBelow a.2 b.2 (later i j a.0 b.0 l a.1 b.1))

pub IsExecutionOrder-from_sort : (m : List Instance) (old new : List Rank) → AreReadyRanks m old
    → IsPermutation old new → IsSortedBy lower new → IsExecutionOrder m (ranked_all new)
IsExecutionOrder-from_sort m old new ready moved sorted = record {
  ranked = λ r h.
      let a = Contains-from_map ranked new r h in
      subst (IsRanked m) a.2
      (ready.is_rank a.0 (Contains-permutation new old a.0 (IsPermutation-sym old new moved)
      a.1));
  whole = λ x is_ready.
      let a = ready.whole x is_ready in
      let there = Contains-map (λ (r : Ranked). r.id) (ranked_all new) (ranked a.0)
      (Contains-map ranked new a.0 (Contains-permutation old new a.0 moved a.1)) in
      subst (Contains (map (λ (r : Ranked). r.id) (ranked_all new))) a.2 there;
  rising = rising new (names_apart old new moved ready.once) sorted;
}
