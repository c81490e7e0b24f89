-- The marks of the components that a node reaches, from the last finished component down.
use Rattle.std.proofs.Common.{◌≡◌, ℕ, ◌+◌, ◌<◌, ◌≤◌, ◌↔◌, ◌⊎◌, inl, inr, Bool, false, List, [], ◌∷◌}
use Rattle.std.proofs.Common.{length, get_or, refl, subst, ◌∙◌, ap, arith, Contains, IsTrue}
use Rattle.epx_types.proofs.Common.{cases_lt, get_or_default, Contains-get_or}
use Rattle.epx_graph.proofs.Common.{IsNodePath, NodeReaches}
use Rattle.epx_components.specs.between.Partitions.{ComponentParts, IsPartition, component_of}
use Rattle.epx_components.specs.between.Partitions.{node_at}
use Rattle.epx_components.specs.between.Partitions.{mark_for}
use Rattle.epx_components.proofs.NodePathLemmas.{NodeReaches-edge, NodeReaches-trans}
use Rattle.epx_components.proofs.PartitionLemmas.{node_at-within}

-- the marks after the nodes of the order from n on
pub record AreReached (edges : ℕ → List ℕ) (p : ComponentParts) (root : ℕ) (marks : List Bool)
    (n : ℕ) : Type 0 where
  pub reason : (k : ℕ) → k < length p.component → IsTrue (mark_for p marks k)
      → NodeReaches edges root k
  pub itself : IsTrue (mark_for p marks root)
  pub edge : (q j : ℕ) → n ≤ q → q < length p.order → Contains (edges (node_at p q)) j
      → IsTrue (mark_for p marks (node_at p q)) → IsTrue (mark_for p marks j)

module _ (edges : ℕ → List ℕ) (p : ComponentParts) (is : IsPartition edges p) (root : ℕ) where
  -- only the component of the root is marked
  pub AreReached-from_root : (marks : List Bool) → root < length p.component
      → ((c : ℕ) → IsTrue (get_or marks c false) ↔ (component_of p root ≡ c))
      → AreReached edges p root marks (length p.order)
  AreReached-from_root marks l own = record {
    reason = λ k lk h. is.joined root k l lk ((own (component_of p k)).0 h);
    itself = (own (component_of p root)).1 refl;
    edge = λ q j le lt. absurd (omega arith);
  }

  -- two lists of marks that agree
  pub AreReached-same : (marks new : List Bool) (n : ℕ)
      → ((c : ℕ) → IsTrue (get_or new c false) ↔ IsTrue (get_or marks c false))
      → AreReached edges p root marks n → AreReached edges p root new n
  AreReached-same marks new n same old = record {
    reason = λ k lk h. old.reason k lk ((same (component_of p k)).0 h);
    itself = (same (component_of p root)).1 old.itself;
    edge = λ q j le lt h was. (same (component_of p j)).1
        (old.edge q j le lt h ((same (component_of p (node_at p q))).0 was));
  }

  pub AreReached-skip : (marks : List Bool) (n : ℕ) → ¬ IsTrue (mark_for p marks (node_at p n))
      → AreReached edges p root marks (n + 1) → AreReached edges p root marks n
  AreReached-skip marks n unmarked old = record {
    reason = old.reason;
    itself = old.itself;
    edge = λ q j le lt h marked. elim (cases_lt n q) [
      | inl past ↦ old.edge q j (omega arith) lt h marked
      | inr now ↦
          let same : q ≡ n = omega arith in
          absurd (unmarked (subst (λ q. IsTrue (mark_for p marks (node_at p q))) same marked))
    ];
  }

  pub AreReached-step : (marks new : List Bool) (n : ℕ) → n < length p.order
      → IsTrue (mark_for p marks (node_at p n))
      → ((c : ℕ) → IsTrue (get_or new c false)
      ↔ (IsTrue (get_or marks c false)
      ⊎ ((i : ℕ) × (i < length (edges (node_at p n)))
      × (get_or p.component (get_or (edges (node_at p n)) i 0) 0 ≡ c))))
      → AreReached edges p root marks (n + 1) → AreReached edges p root new n
  AreReached-step marks new n l marked marks_new old = record {
    reason = λ k lk h. elim ((marks_new (component_of p k)).0 h) [
      | inl was ↦ old.reason k lk was
      | inr (i, below, same) ↦
          let j = get_or (edges b) i 0 in
          let h : Contains (edges b) j = Contains-get_or (edges b) i 0 below in
          let to = NodeReaches-trans edges root b j (old.reason b lb marked)
          (NodeReaches-edge edges b j h) in
          NodeReaches-trans edges root j k to (is.joined j k (is.within b j h) lk same)
    ];
    itself = (marks_new (component_of p root)).1 (inl old.itself);
    edge = λ q j le lt h was. elim (cases_lt n q) [
      | inl past ↦ (marks_new (component_of p j)).1
          (inl (old.edge q j (omega arith) lt h (before q le lt was)))
      | inr now ↦
          let same : q ≡ n = omega arith in
          let target : Contains (edges b) j =
          subst (λ q. Contains (edges (node_at p q)) j) same h in
          let at : get_or (edges b) target.0 0 ≡ j =
          get_or_default (edges b) target.0 0 j target.1 ∙ target.2 in
          (marks_new (component_of p j)).1 (inr (target.0, target.1, ap (component_of p) at))
    ];
  } where
    b : ℕ
    b = node_at p n

    lb : b < length p.component
    lb = node_at-within edges p is n l

    -- the step marks no later node
    before : (q : ℕ) → n ≤ q → q < length p.order → IsTrue (mark_for p new (node_at p q))
        → IsTrue (mark_for p marks (node_at p q))
    before q le lt h = elim ((marks_new (component_of p (node_at p q))).0 h) [
      | inl was ↦ was
      | inr (i, below, same) ↦
          let down = is.falls b (get_or (edges b) i 0) (Contains-get_or (edges b) i 0 below) in
          let up : component_of p b ≤ component_of p (node_at p q) = is.sorted n q le lt in
          let one : component_of p b ≡ component_of p (node_at p q) =
          omega (arith, down, up, same) in
          subst (λ c. IsTrue (get_or marks c false)) one marked
    ]

  path_reached : (marks : List Bool) → AreReached edges p root marks 0 → (k j : ℕ) (cs : List ℕ)
      → k < length p.component → IsTrue (mark_for p marks k) → IsNodePath edges k cs j
      → IsTrue (mark_for p marks j)
  path_reached marks all k j [] l marked path =
      subst (λ k. IsTrue (mark_for p marks k)) path marked
  path_reached marks all k j (c ∷ cs) l marked path =
      let q = is.listed k l in
      let at : node_at p q.0 ≡ k = get_or_default p.order q.0 0 k q.1 ∙ q.2 in
      let next = (rw at at (all.edge q.0 c (omega arith) q.1)) path.0 marked in
      path_reached marks all c j cs (is.within k c path.0) next path.1

  pub mark_for-decides_reached : (marks : List Bool) → AreReached edges p root marks 0
      → root < length p.component → (k : ℕ) → k < length p.component
      → IsTrue (mark_for p marks k) ↔ NodeReaches edges root k
  mark_for-decides_reached marks all l k lk =
      (all.reason k lk, λ there. path_reached marks all root k there.0 l all.itself there.1)
