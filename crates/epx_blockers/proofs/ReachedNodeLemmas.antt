-- What components collect of the missing nodes that they reach.
use Rattle.std.proofs.Common.{◌≡◌, ◌≢◌, ◌↔◌, inl, inr, ℕ, ◌+◌, ◌<◌, ◌≤◌, List, [], ◌∷◌, length}
use Rattle.std.proofs.Common.{get_or, Contains, set, replicate, refl, sym, ap, subst, ◌∙◌, arith}
use Rattle.epx_types.proofs.Common.{cases_eq, cases_lt, Contains-nil, get_or_past}
use Rattle.epx_types.proofs.Common.{get_or-replicate, get_or_default, get_or_read}
use Rattle.epx_types.proofs.Common.{length-replicate, get_or-set_same, get_or-set_other}
use Rattle.epx_graph.proofs.Common.{DependencyGraph, IsGraph, edges_of, IsNodePath}
use Rattle.epx_components.specs.between.Collections.{AreCollected}
use Rattle.epx_components.specs.between.Partitions.{ComponentParts, IsPartition, component_of}
use Rattle.epx_components.proofs.CollectionLemmas.{AreCollected-same}
use Rattle.epx_components.proofs.NodePathLemmas.{NodeReaches-within, NodeReaches-trans}
use Rattle.epx_components.proofs.PartitionLemmas.{component_of-within}
use Rattle.epx_blockers.specs.declared.reached.Reached.{Reached}
use Rattle.epx_blockers.specs.declared.reached.Reached.TheVariants.{Nothing, One, Several}
use Rattle.epx_blockers.specs.inner.ReachedNodes.{ReachesMissingNode, IsReached, HasOther}
use Rattle.epx_blockers.specs.inner.ReachedNodes.{reached_for}

module _ (g : DependencyGraph) where
  -- k reaches a missing node other than t
  abbrev pub ReachesOther : ℕ → ℕ → Type 0
  ReachesOther k t = (j : ℕ) × ReachesMissingNode g k j × (j ≢ t)

  -- a value that says exactly of which numbers k reaches another missing node
  pub IsReached-exactly : (k : ℕ) (v : Reached) → ((t : ℕ) → HasOther t v ↔ ReachesOther k t)
      → IsReached g k v
  IsReached-exactly k Nothing exact =
      λ j there. (exact (j + 1)).1 (j, there, λ same. absurd (omega (arith, same)))
  IsReached-exactly k (One s) exact =
      let some = (exact (s + 1)).0 (λ same. absurd (omega (arith, same))) in
      (subst (ReachesMissingNode g k) (only some.0 some.1) some.1, only)
    where
      only : (j : ℕ) → ReachesMissingNode g k j → j ≡ s
      only j there = elim (cases_eq j s) [
        | inl same ↦ same
        | inr other ↦ absurd ((exact s).1 (j, there, other) refl)
      ]
  IsReached-exactly k Several exact =
      let first = (exact 0).0 tt in
      let second = (exact first.0).0 tt in
      (second.0, first.0, second.1, first.1, second.2)

module _ (g : DependencyGraph) (p : ComponentParts) where
  -- component c has a missing node below n, other than t
  abbrev pub HasMissingOther : ℕ → ℕ → ℕ → Type 0
  HasMissingOther n t c = (s : ℕ) × (g.committed ≤ s) × (s < n) × (component_of p s ≡ c) × (s ≢ t)

  -- the first values, after the missing nodes below n
  abbrev pub AreFirstReached : ℕ → List Reached → Type 0
  AreFirstReached n values = (t c : ℕ)
      → HasOther t (get_or values c Nothing) ↔ HasMissingOther n t c

module _ (g : DependencyGraph) (graph : IsGraph g) (p : ComponentParts)
    (is : IsPartition (edges_of g) p) (each : length p.component ≡ length g.ids) where
  nothing_at_first : (values : List Reached) (count c : ℕ) → values ≡ replicate count Nothing
      → get_or values c Nothing ≡ Nothing
  nothing_at_first values count c all =
      ap (λ vs. get_or vs c Nothing) all ∙ elim (cases_lt c count) [
        | inl l ↦ get_or-replicate {A = Reached} count c Nothing Nothing l
        | inr past ↦ get_or_past (replicate count Nothing) c Nothing
            (omega (arith, past, length-replicate {A = Reached} count Nothing))
      ]

  pub AreFirstReached-none : (values : List Reached) (count : ℕ) → values ≡ replicate count Nothing
      → AreFirstReached g p g.committed values
  AreFirstReached-none values count all t c = (
    λ h. absurd (subst (HasOther t) (nothing_at_first values count c all) h),
    λ (s, past, l, at, other). absurd (omega (arith, past, l)),
  )

  -- a missing node reaches itself alone
  missing_path : (k j : ℕ) (cs : List ℕ) → g.committed ≤ k → IsNodePath (edges_of g) k cs j
      → k ≡ j
  missing_path k j [] past path = path
  missing_path k j (c ∷ cs) past path =
      absurd (Contains-nil c (subst (λ (row : List ℕ). Contains row c)
      (graph.missing_lead_nowhere k past) path.0))

  -- missing nodes of one component are the same
  missing_apart : (s n : ℕ) → g.committed ≤ s → s < length g.ids → n < length g.ids
      → component_of p s ≡ component_of p n → s ≡ n
  missing_apart s n past l k same =
      let there = is.joined s n (omega (arith, l, each)) (omega (arith, k, each)) same in
      missing_path s n there.0 past there.1

  pub AreFirstReached-step : (n : ℕ) (values : List Reached) → g.committed ≤ n → n < length g.ids
      → length values ≡ p.count → AreFirstReached g p n values
      → AreFirstReached g p (n + 1) (set values (component_of p n) (One n))
  AreFirstReached-step n values past l all are t c =
      let own = component_of p n in
      let within : own < length values =
      omega (arith, all, component_of-within (edges_of g) p is n (omega (arith, l, each))) in
      elim (cases_eq c own) [
        | inl same ↦
            let here : get_or (set values own (One n)) c Nothing ≡ One n =
            ap (λ d. get_or (set values own (One n)) d Nothing) same
            ∙ get_or-set_same values own (One n) Nothing within in (
              λ h. (n, past, omega arith, sym same, subst (HasOther t) here h),
              λ (s, low, high, at, other).
                  let one : s ≡ n = missing_apart s n low (omega (arith, high, l)) l (at ∙ same) in
                  subst (HasOther t) (sym here) (subst (λ k. k ≢ t) one other),
            )
        | inr differs ↦
            let kept : get_or (set values own (One n)) c Nothing ≡ get_or values c Nothing =
            get_or-set_other values own c (One n) Nothing differs in (
              λ h.
                  let (s, low, high, at, other) = (are t c).0 (subst (HasOther t) kept h) in
                  (s, low, omega (arith, high), at, other),
              λ (s, low, high, at, other). subst (HasOther t) (sym kept) ((are t c).1 (
                s,
                low,
                elim (cases_lt s n) [
                  | inl less ↦ less
                  | inr more ↦
                      let last : s ≡ n = omega (arith, high, more) in
                      absurd (differs (sym at ∙ ap (component_of p) last))
                ],
                at,
                other,
              )),
            )
      ]

  -- the values of all nodes
  pub IsReached-all : (first values : List Reached) (n : ℕ) → n ≡ length g.ids
      → AreFirstReached g p n first
      → ((t : ℕ) → AreCollected (edges_of g) p (length p.order)
      (λ c. HasOther t (get_or first c Nothing)) (λ c. HasOther t (get_or values c Nothing))
      (λ c. HasOther t (get_or values c Nothing)))
      → (k : ℕ) → k < length g.ids → IsReached g k (reached_for p values k)
  IsReached-all first values n whole are all k l =
      let inside : k < length p.component = omega (arith, l, each) in
      IsReached-exactly g k (reached_for p values k) (λ t.
      let both = AreCollected-same (edges_of g) p is (λ c. HasOther t (get_or first c Nothing))
      (λ c. HasOther t (get_or values c Nothing)) (all t) k inside in (
        λ h.
            let (j, there, at) = both.0 h in
            let (s, past, low, same, other) = (are t (component_of p j)).0 at in
            let within =
            NodeReaches-within (edges_of g) (length p.component) is.within k j inside there in (
              s,
              (
                past,
                NodeReaches-trans (edges_of g) k j s there
                    (is.joined j s within (omega (arith, low, whole, each)) (sym same)),
              ),
              other,
            ),
        λ (j, (past, there), other). both.1 (
          j,
          there,
          (are t (component_of p j)).1 (
            j,
            past,
            omega (
              arith,
              whole,
              each,
              NodeReaches-within (edges_of g) (length p.component) is.within k j inside there,
            ),
            refl,
            other,
          ),
        ),
      ))

  -- what the value that was read for a node says
  pub IsReached-read : (values : List Reached) → length values ≡ p.count
      → ((k : ℕ) → k < length g.ids → IsReached g k (reached_for p values k))
      → (n own : ℕ) (d v : Reached) → n < length g.ids → own ≡ get_or p.component n own
      → get_or values own d ≡ v → IsReached g n v
  IsReached-read values all each_is n own d v l place at =
      let inside : n < length p.component = omega (arith, l, each) in
      let home : own ≡ component_of p n = get_or_read p.component n own inside place 0 in
      let within : own < length values =
      omega (arith, all, home, component_of-within (edges_of g) p is n inside) in
      let same : reached_for p values n ≡ v =
      ap (λ c. get_or values c Nothing) (sym home) ∙ get_or_default values own Nothing d within
      ∙ at in
      subst (IsReached g n) same (each_is n l)
