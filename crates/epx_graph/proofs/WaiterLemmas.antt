-- The marked nodes are the waiting list of the map.
use Rattle.std.proofs.Common.{◌≡◌, inl, inr, ℕ, ◌+◌, ◌<◌, ◌≤◌, List, [], ◌∷◌, ◌++◌, Option, Some}
use Rattle.std.proofs.Common.{None, slice_get, Contains, refl, sym, ap, subst, ◌∙◌, arith}
use Rattle.epx_types.proofs.Common.{cases_lt, map_push, Contains-append_left, Contains-push}
use Rattle.epx_types.proofs.Common.{Contains-push_cases, slice_get_within, Below, UpTo, IsRising}
use Rattle.epx_types.proofs.Common.{Instance, Reaches, WaitsFor, Waiting, waiting_ids}
use Rattle.epx_types.proofs.Common.{IsWaitingList, Contains-nil, Contains-from_map, IsRising-push}
use Rattle.epx_types.proofs.Common.{UpTo-antisymm}
use Rattle.epx_types.specs.declared.id.Id.{Id}
use Rattle.epx_graph.specs.Graphs.{DependencyGraph, edges_of, IsGraph}
use Rattle.epx_graph.specs.GraphOf.{IsGraphOf}
use Rattle.epx_graph.specs.NodePaths.{NodeReaches}
use Rattle.epx_graph.specs.inner.LeastMissing.{AreMarksOf}
use Rattle.epx_graph.specs.inner.Searches.{node_mark}
use Rattle.epx_graph.specs.inner.Waiters.{IsWaiter, AreWaiters}
use Rattle.epx_graph.proofs.GraphNodeLemmas.{Below-committed, Below-missing, slice_get-id_of_node}
use Rattle.epx_graph.proofs.GraphNodeLemmas.{IsNodePath-within}
use Rattle.epx_graph.proofs.MapPathLemmas.{IsCommitted-iff_node, slice_get-if_committed}
use Rattle.epx_graph.proofs.MapPathLemmas.{NodeReaches-iff}
use Rattle.epx_graph.proofs.MapPathLemmas.{NodeReaches-exists, committed-if_missing}
use Rattle.epx_graph.proofs.MapPathLemmas.{IsCommitted-not_past}

-- ---- node by node

pub AreWaiters-nil : (g : DependencyGraph) (marks : List (Option ℕ)) → AreWaiters g marks 0 []
AreWaiters-nil g marks = record {
  from = λ w h. absurd (Contains-nil w h);
  whole = λ k w l h. absurd (omega arith);
  rising = tt;
}

-- a node without a mark
pub AreWaiters-skip : (g : DependencyGraph) (marks : List (Option ℕ)) (n : ℕ) (ws : List Waiting)
    → node_mark marks n ≡ None → AreWaiters g marks n ws → AreWaiters g marks (n + 1) ws
AreWaiters-skip g marks n ws none is = record {
  from = λ w h. let at = is.from w h in (at.0, omega (arith, at.1), at.2);
  whole = λ k w l h. elim (cases_lt k n) [
    | inl lower ↦ is.whole k w lower h
    | inr not_lower ↦
        let same : k ≡ n = omega arith in
        let marked : node_mark marks n ≡ Some h.mark = ap (node_mark marks) (sym same) ∙ h.marked in
        absurd (cc (marked, none))
  ];
  rising = is.rising;
}

-- a node has one waiter
waiter_is_unique : (g : DependencyGraph) (marks : List (Option ℕ)) (k n : ℕ) (v w : Waiting) → k ≡ n
    → IsWaiter g marks k v → IsWaiter g marks n w → w ≡ v
waiter_is_unique g marks k n v w same p q =
    let ids : Some w.id ≡ Some v.id = sym q.id ∙ ap (slice_get g.ids) (sym same) ∙ p.id in
    let id : w.id ≡ v.id = cc ids in
    let both : Some q.mark ≡ Some p.mark =
    sym q.marked ∙ ap (node_mark marks) (sym same) ∙ p.marked in
    let mark : q.mark ≡ p.mark = cc both in
    let missings : Some w.missing ≡ Some v.missing =
    sym q.missing ∙ ap (slice_get g.ids) mark ∙ p.missing in
    let missing : w.missing ≡ v.missing = cc missings in
    λ i. record { id = id i; missing = missing i }

-- a marked node
pub AreWaiters-push : (g : DependencyGraph) (graph : IsGraph g) (marks : List (Option ℕ)) (n : ℕ)
    (ws : List Waiting) (w : Waiting) → n < g.committed → IsWaiter g marks n w
    → AreWaiters g marks n ws → AreWaiters g marks (n + 1) (ws ++ w ∷ [])
AreWaiters-push g graph marks n ws w within waits is = record {
  from = λ v h. elim (Contains-push_cases ws w v h) [
    | inl old ↦ let at = is.from v old in (at.0, omega (arith, at.1), at.2)
    | inr last ↦ (n, omega arith, subst (IsWaiter g marks n) last waits)
  ];
  whole = λ k v l h. elim (cases_lt k n) [
    | inl lower ↦ Contains-append_left ws (w ∷ []) v (is.whole k v lower h)
    | inr not_lower ↦
        let same : k ≡ n = omega arith in
        subst (Contains (ws ++ w ∷ [])) (waiter_is_unique g marks k n v w same h waits)
        (Contains-push ws w)
  ];
  rising = subst IsRising (sym (map_push (λ (v : Waiting). v.id) ws w))
      (IsRising-push (waiting_ids ws) w.id is.rising below);
} where
  below : (x : Id) → Contains (waiting_ids ws) x → Below x w.id
  below x h =
      let from = Contains-from_map (λ (v : Waiting). v.id) ws x h in
      let at = is.from from.0 from.1 in
      let lower : at.0 < n = at.1 in
      subst (λ (y : Id). Below y w.id) from.2
      ((Below-committed g graph at.0 n from.0.id w.id at.2.id waits.id (omega arith) within).0
      lower)

-- ---- the waiting list

module _ (m : List Instance) (g : DependencyGraph) (is : IsGraphOf m g) (marks : List (Option ℕ))
    (are : AreMarksOf g marks) where
  -- the numbers of missing nodes rise with their Ids
  up_to : (s j : ℕ) (x y : Id) → slice_get g.ids s ≡ Some x → slice_get g.ids j ≡ Some y
      → g.committed ≤ s → s ≤ j → UpTo x y
  up_to s j x y p q past l =
      elim (cases_lt s j) [
        | inl lower ↦ inr ((Below-missing g is.graph s j x y p q past (omega arith)).0 lower)
        | inr not_lower ↦
            let same : s ≡ j = omega arith in
            let one : Some x ≡ Some y = sym p ∙ ap (slice_get g.ids) same ∙ q in
            inl (cc one)
      ]

  waiter_waits : (k : ℕ) (w : Waiting) → k < g.committed → IsWaiter g marks k w
      → WaitsFor m w.id w.missing
  waiter_waits k w l h =
      let found = are.marked k h.mark h.marked in
      record {
        committed = (IsCommitted-iff_node m g is k w.id h.id).0 l;
        reached = (NodeReaches-iff m g is k h.mark w.id w.missing h.id h.missing).0 found.reached;
        missing = IsCommitted-not_past m g is h.mark w.missing h.missing found.missing;
        least = λ z there lacks.
            let j = NodeReaches-exists m g is k w.id z h.id there in
            up_to h.mark j.0 w.missing z h.missing j.1 found.missing
            (found.least j.0 (committed-if_missing m g is j.0 z j.1 lacks) j.2);
      }

  waits_marked : (x y : Id) → WaitsFor m x y
      → (k : ℕ) × (k < g.committed) × IsWaiter g marks k (record { id = x; missing = y })
  waits_marked x y waits =
      let k = slice_get-if_committed m g is x waits.committed in
      let j = NodeReaches-exists m g is k.0 x y k.2 waits.reached in
      let past = committed-if_missing m g is j.0 y j.1 waits.missing in
      by k.0 k.1 k.2 j.0 j.1 j.2 past (node_mark marks k.0) refl
    where
      by : (k : ℕ) → k < g.committed → slice_get g.ids k ≡ Some x → (j : ℕ)
          → slice_get g.ids j ≡ Some y → NodeReaches (edges_of g) k j → g.committed ≤ j
          → (o : Option ℕ) → node_mark marks k ≡ o → (i : ℕ) × (i < g.committed)
          × IsWaiter g marks i (record { id = x; missing = y })
      by k l at j to there past None none =
          absurd (are.unmarked k j l none past (slice_get_within g.ids j y to) there)
      by k l at j to there past (Some s) marked =
          let found = are.marked k s marked in
          let z = slice_get-id_of_node g is.graph s
          (IsNodePath-within g is.graph k found.reached.0 s
          (omega (arith, is.graph.committed_nodes)) found.reached.1) in
          let reached : Reaches m x z.0 =
          (NodeReaches-iff m g is k s x z.0 at z.1).0 found.reached in
          let low : UpTo y z.0 = waits.least z.0 reached
          (IsCommitted-not_past m g is s z.0 z.1 found.missing) in
          let high : UpTo z.0 y = up_to s j z.0 y z.1 to found.missing
          (found.least j past there) in (
            k,
            l,
            record {
              mark = s;
              marked = marked;
              id = at;
              missing = z.1 ∙ ap Some (UpTo-antisymm z.0 y high low);
            },
          )

  pub IsWaitingList-from_waiters : (ws : List Waiting) → AreWaiters g marks g.committed ws
      → IsWaitingList m ws
  IsWaitingList-from_waiters ws waiters = record {
    waits = λ w h. let at = waiters.from w h in waiter_waits at.0 w at.1 at.2;
    whole = λ x y waits. let at = waits_marked x y waits in
        waiters.whole at.0 (record { id = x; missing = y }) at.1 at.2;
    rising = waiters.rising;
  }
