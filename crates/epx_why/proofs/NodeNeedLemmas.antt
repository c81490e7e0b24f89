-- The needs of a range of nodes, node by node; and what they are over the map.
use Rattle.std.proofs.Common.{◌≡◌, ◌≢◌, ◌⊎◌, inl, inr, ℕ, ◌+◌, ◌<◌, ◌≤◌, List, [], ◌∷◌, ◌++◌, map}
use Rattle.std.proofs.Common.{length, Contains, Option, Some, None, slice_get, sym, ap, subst}
use Rattle.std.proofs.Common.{subst₂, ◌∙◌, arith}
use Rattle.epx_types.proofs.Common.{cases_lt, map_push, Contains-append_left, Contains-push}
use Rattle.epx_types.proofs.Common.{Contains-push_cases, slice_get_within, Below, IsRising}
use Rattle.epx_types.proofs.Common.{Instance, IsCommitted, Contains-from_map, IsRising-push}
use Rattle.epx_types.specs.declared.id.Id.{Id}
use Rattle.epx_graph.proofs.Common.{DependencyGraph, edges_of, IsGraph, IsGraphOf, Below-committed}
use Rattle.epx_graph.proofs.Common.{Below-missing, NodeReaches-exists, slice_get-if_committed}
use Rattle.epx_graph.proofs.Common.{committed-if_missing}
use Rattle.epx_graph.proofs.Common.{IsCommitted-not_past, LeadsTo, AreDistancesFrom, AreDistancesTo}
use Rattle.epx_graph.proofs.Common.{distance_at}
use Rattle.epx_why.specs.declared.need.Need.{Need}
use Rattle.epx_why.specs.Distances.{IsDistance}
use Rattle.epx_why.specs.Needs.{AreNeedsOf, AreNeeding}
use Rattle.epx_why.specs.inner.NodeNeeds.{IsNeedAt, AreNeedsIn}
use Rattle.epx_why.proofs.MapStepLemmas.{IsDistance-from_least, LeadsTo-from_distance}
use Rattle.epx_why.proofs.MapStepLemmas.{AreLeast-fewest}
use Rattle.epx_why.proofs.MapStepLemmas.{AreLeast-known, IsPath-start_committed}

module _ (g : DependencyGraph) (distances : List (Option ℕ)) (start : ℕ) where
  -- a node without a distance
  pub AreNeedsIn-skip : (end : ℕ) (needs : List Need) → distance_at distances end ≡ None
      → AreNeedsIn g distances start end needs → AreNeedsIn g distances start (end + 1) needs
  AreNeedsIn-skip end needs none are = record {
    from = λ n h. let at = are.from n h in (at.0, at.1, omega (arith, at.2), at.3);
    whole = λ k n low high h. elim (cases_lt k end) [
      | inl before ↦ are.whole k n low before h
      | inr not_before ↦
          let same : k ≡ end = omega arith in
          let has : distance_at distances end ≡ Some n.steps = ap (distance_at distances) (sym same)
          ∙ h.steps in
          absurd (cc (has, none))
    ];
    rising = are.rising;
  }

  -- a node with a distance
  module _ (graph : IsGraph g) (end : ℕ) (needs : List Need) (w : Need) (start_low : start ≤ end)
      (kind : (end < g.committed) ⊎ (g.committed ≤ start)) (here : IsNeedAt g distances end w)
      (are : AreNeedsIn g distances start end needs) where
    need_is_unique : (k : ℕ) (n : Need) → k ≡ end → IsNeedAt g distances k n → w ≡ n
    need_is_unique k n same at =
        let ids : Some w.id ≡ Some n.id = sym here.id ∙ ap (slice_get g.ids) (sym same) ∙ at.id in
        let id : w.id ≡ n.id = cc ids in
        let both : Some w.steps ≡ Some n.steps = sym here.steps
        ∙ ap (distance_at distances) (sym same) ∙ at.steps in
        let steps : w.steps ≡ n.steps = cc both in
        λ i. record { id = id i; steps = steps i }

    below : (x : Id) → Contains (map (λ (n : Need). n.id) needs) x → Below x w.id
    below x h =
        let from = Contains-from_map (λ (n : Need). n.id) needs x h in
        let at = are.from from.0 from.1 in
        let low : at.0 < end = at.2 in
        let order : Below from.0.id w.id = elim kind [
          | inl committed ↦ (Below-committed g graph at.0 end from.0.id w.id at.3.id here.id
              (omega arith) committed).0 low
          | inr missing ↦ (Below-missing g graph at.0 end from.0.id w.id at.3.id here.id
              (omega (arith, at.1)) (omega arith)).0 low
        ] in
        subst (λ (y : Id). Below y w.id) from.2 order

    pub AreNeedsIn-push : AreNeedsIn g distances start (end + 1) (needs ++ w ∷ [])
    AreNeedsIn-push = record {
      from = λ n h. elim (Contains-push_cases needs w n h) [
        | inl old ↦ let at = are.from n old in (at.0, at.1, omega (arith, at.2), at.3)
        | inr last ↦ (end, start_low, omega arith, subst (IsNeedAt g distances end) last here)
      ];
      whole = λ k n low high h. elim (cases_lt k end) [
        | inl before ↦ Contains-append_left needs (w ∷ []) n (are.whole k n low before h)
        | inr not_before ↦
            let same : k ≡ end = omega arith in
            subst (Contains (needs ++ w ∷ [])) (need_is_unique k n same h) (Contains-push needs w)
      ];
      rising = subst IsRising (sym (map_push (λ (n : Need). n.id) needs w))
          (IsRising-push (map (λ (n : Need). n.id) needs) w.id are.rising below);
    }

-- the needs by some distances, in a range of nodes, are those by equal distances in an equal range
pub AreNeedsIn-equal : (g : DependencyGraph) (ds es : List (Option ℕ)) (start from end to : ℕ)
    (needs : List Need) → ds ≡ es → start ≡ from → end ≡ to → AreNeedsIn g ds start end needs
    → AreNeedsIn g es from to needs
AreNeedsIn-equal g ds es start from end to needs same first last are =
    subst (λ (n : ℕ). AreNeedsIn g es from n needs) last
    (subst₂ (λ (d : List (Option ℕ)) (n : ℕ). AreNeedsIn g d n end needs) same first are)

-- ---- over the map

module _ (m : List Instance) (g : DependencyGraph) (is : IsGraphOf m g) (k : ℕ) (x : Id)
    (at : slice_get g.ids k ≡ Some x) where
  -- the missing instances that a committed one reaches
  pub AreNeedsOf-node : (distances : List (Option ℕ)) (needs : List Need) → k < g.committed
      → AreDistancesFrom g k distances
      → AreNeedsIn g distances g.committed (length g.ids) needs → AreNeedsOf m x needs
  AreNeedsOf-node distances needs l known are = record {
    only = λ n h.
        let from = are.from n h in
        let j = from.0 in
        let apart : k ≢ j = λ same. absurd (omega (arith, from.1)) in (
          IsCommitted-not_past m g is j n.id from.3.id from.1,
          IsDistance-from_least m g is k j x n.id at from.3.id apart n.steps
              (known.leads j n.steps from.3.steps)
              (AreLeast-fewest (λ i c. LeadsTo (edges_of g) k i c) (length g.ids) distances known j
              n.steps from.3.steps),
        );
    whole = λ y steps need. there y steps need.0 need.1;
    rising = are.rising;
  } where
    there : (y : Id) (steps : ℕ) → ¬ IsCommitted m y → IsDistance m x y steps
        → Contains needs (record { id = y; steps = steps })
    there y steps missing d =
        let node = NodeReaches-exists m g is k x y at (inr (d.via, d.path)) in
        let j = node.0 in
        let past = committed-if_missing m g is j y node.1 missing in
        let apart : k ≢ j = λ same. absurd (omega (arith, past)) in
        let leads = LeadsTo-from_distance m g is k j x y at node.1 apart steps d in
        are.whole j (record { id = y; steps = steps }) past (slice_get_within g.ids j y node.1)
        (record {
          id = node.1;
          steps = AreLeast-known (λ i c. LeadsTo (edges_of g) k i c) (length g.ids) distances known
              j steps leads.0 leads.1;
        })

  -- the instances that reach a missing one
  pub AreNeeding-node : (distances : List (Option ℕ)) (needs : List Need) → g.committed ≤ k
      → AreDistancesTo g k distances → AreNeedsIn g distances 0 g.committed needs
      → AreNeeding m x needs
  AreNeeding-node distances needs past known are = record {
    only = λ n h.
        let from = are.from n h in
        let j = from.0 in
        let apart : j ≢ k = λ same. absurd (omega (arith, from.2)) in
        IsDistance-from_least m g is j k n.id x from.3.id at apart n.steps
        (known.leads j n.steps from.3.steps)
        (AreLeast-fewest (λ i c. LeadsTo (edges_of g) c i k) (length g.ids) distances known j
        n.steps from.3.steps);
    whole = there;
    rising = are.rising;
  } where
    there : (y : Id) (steps : ℕ) → IsDistance m y x steps
        → Contains needs (record { id = y; steps = steps })
    there y steps d =
        let node = slice_get-if_committed m g is y (IsPath-start_committed m y d.via x d.path) in
        let j = node.0 in
        let apart : j ≢ k = λ same. absurd (omega (arith, node.1)) in
        let leads = LeadsTo-from_distance m g is j k y x node.2 at apart steps d in
        are.whole j (record { id = y; steps = steps }) (omega arith) node.1
        (record {
          id = node.2;
          steps = AreLeast-known (λ i c. LeadsTo (edges_of g) c i k) (length g.ids) distances known
              j steps leads.0 leads.1;
        })
