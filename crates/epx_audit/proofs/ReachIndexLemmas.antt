-- The chains of an order, position by position.
use Rattle.std.proofs.Common.{◌≡◌, inl, inr, ℕ, ◌+◌, ◌-◌, ◌<◌, ◌≤◌, ◌++◌, ◌∷◌, [], List, length}
use Rattle.std.proofs.Common.{length-set, get_or, set, All, sym, subst, ap, ◌∙◌, arith}
use Rattle.std.proofs.Common.{IfSome}
use Rattle.epx_types.proofs.Common.{cases_eq, cases_lt, get_or-set_same, get_or-set_other}
use Rattle.epx_types.proofs.Common.{get_or_append_left, get_or_push, length_push}
use Rattle.epx_graph.proofs.Common.{DependencyGraph, edges_of, NodeReaches}
use Rattle.epx_audit.specs.declared.reach_index.Chain.{Chain}
use Rattle.epx_audit.specs.declared.reach_index.ReachIndex.{ReachIndex}
use Rattle.epx_audit.specs.inner.PathCovers.{IsPathCover}
use Rattle.epx_audit.specs.inner.ReachIndexes.{IsChain, IsReachIndex}
use Rattle.epx_components.proofs.NodePathLemmas.{NodeReaches-itself, NodeReaches-trans}

-- the next position, if the chain's start reaches it and it reaches all positions from the low one
-- on
pub IsChain-next : (edges : ℕ → List ℕ) (nodes : List ℕ) (n : ℕ) (chain : Chain) → chain.start ≤ n
    → NodeReaches edges (get_or nodes chain.start 0) (get_or nodes n 0)
    → ((q : ℕ) → chain.low ≤ q → q < n → NodeReaches edges (get_or nodes n 0) (get_or nodes q 0))
    → IsChain edges nodes (n + 1) chain
IsChain-next edges nodes n chain l from down = record {
  start = λ some. (
    omega arith,
    subst (λ i. NodeReaches edges (get_or nodes chain.start 0) (get_or nodes i 0))
        last from,
  );
  down = λ q low below. elim (cases_lt q n) [
    | inl past ↦ subst (λ i. NodeReaches edges (get_or nodes i 0) (get_or nodes q 0)) last
        (down q low past)
    | inr here ↦ let same : n + 1 - 1 ≡ q = omega arith in
        NodeReaches-itself edges _ _ (ap (λ i. get_or nodes i 0) same)
  ];
} where
  last : n ≡ n + 1 - 1
  last = omega arith

-- the next position, whose node reaches the node of the last one
pub NodeReaches-chain : (edges : ℕ → List ℕ) (nodes : List ℕ) (n : ℕ) (chain : Chain)
    → NodeReaches edges (get_or nodes n 0) (get_or nodes (n - 1) 0) → IsChain edges nodes n chain
    → (q : ℕ) → chain.low ≤ q → q < n → NodeReaches edges (get_or nodes n 0) (get_or nodes q 0)
NodeReaches-chain edges nodes n chain step is q low below =
    NodeReaches-trans edges (get_or nodes n 0) (get_or nodes (n - 1) 0) (get_or nodes q 0) step
    (is.down q low below)

-- what is after the first n positions
pub record AreChains (g : DependencyGraph) (nodes starts positions chain_start : List ℕ)
    (n : ℕ) : Type 0 where
  pub one_start_each : length starts ≡ n
  pub each_node : (length positions ≡ length g.ids) × (length chain_start ≡ length g.ids)
  pub start : (p : ℕ) → p < n → (get_or starts p 0 < n)
      × NodeReaches (edges_of g) (get_or nodes (get_or starts p 0) 0) (get_or nodes p 0)
  pub down : (k q : ℕ) → k < length g.ids → get_or chain_start k 0 ≤ q → q ≤ get_or positions k 0
      → (q < n) × NodeReaches (edges_of g) k (get_or nodes q 0)

-- the next position, whose chain is known
pub AreChains-next : (g : DependencyGraph) (nodes starts positions chain_start : List ℕ) (n : ℕ)
    (chain : Chain) → get_or nodes n 0 < length g.ids → IsChain (edges_of g) nodes (n + 1) chain
    → AreChains g nodes starts positions chain_start n
    → AreChains g nodes (starts ++ chain.start ∷ []) (set positions (get_or nodes n 0) n)
    (set chain_start (get_or nodes n 0) chain.low) (n + 1)
AreChains-next g nodes starts positions chain_start n chain node_in is old = record {
  one_start_each = omega (arith, length_push starts chain.start, old.one_start_each);
  each_node =
      (length-set positions _ _ ∙ old.each_node.0, length-set chain_start _ _ ∙ old.each_node.1);
  start = λ p below. elim (cases_lt p n) [
    | inl past ↦
        let s = old.start p past in
        let same : get_or (starts ++ chain.start ∷ []) p 0 ≡ get_or starts p 0 =
        get_or_append_left starts (chain.start ∷ []) 0 p (omega (arith, old.one_start_each)) in
        rw same (omega (arith, s.0), s.1)
    | inr here ↦
        let s = is.start (omega arith) in
        let same : get_or (starts ++ chain.start ∷ []) p 0 ≡ chain.start =
        get_or_push starts chain.start 0 p (omega (arith, old.one_start_each)) in
        let own : n + 1 - 1 ≡ p = omega arith in
        rw same (
          s.0,
          subst (λ i. NodeReaches edges (get_or nodes chain.start 0) (get_or nodes i 0)) own s.1,
        )
  ];
  down = λ k q k_in low up. elim (cases_eq k node) [
    | inl here ↦
        let placed : get_or (set positions node n) k 0 ≡ n =
        ap (λ j. get_or (set positions node n) j 0) here
        ∙ get_or-set_same positions node n 0 (omega (arith, old.each_node.0)) in
        let lowest : get_or (set chain_start node chain.low) k 0 ≡ chain.low =
        ap (λ j. get_or (set chain_start node chain.low) j 0) here
        ∙ get_or-set_same chain_start node chain.low 0 (omega (arith, old.each_node.1)) in
        let below : q < n + 1 = omega (arith, placed, up) in
        let last : get_or nodes (n + 1 - 1) 0 ≡ k =
        ap (λ i. get_or nodes i 0) at_last ∙ sym here in (
          below,
          subst (λ j. NodeReaches edges j (get_or nodes q 0)) last
              (is.down q (omega (arith, lowest, low)) below),
        )
    | inr there ↦
        let placed : get_or (set positions node n) k 0 ≡ get_or positions k 0 =
        get_or-set_other positions node k n 0 there in
        let lowest : get_or (set chain_start node chain.low) k 0 ≡ get_or chain_start k 0 =
        get_or-set_other chain_start node k chain.low 0 there in
        let o = old.down k q k_in (omega (arith, lowest, low)) (omega (arith, placed, up)) in
        (omega (arith, o.0), o.1)
  ];
} where
  edges : ℕ → List ℕ
  edges = edges_of g

  node : ℕ
  node = get_or nodes n 0

  at_last : n + 1 - 1 ≡ n
  at_last = omega arith

-- after the last position
pub IsReachIndex-from_chains : (g : DependencyGraph) (w : ReachIndex) (n : ℕ)
    → All (λ k. k < length g.ids) w.nodes.items → n ≡ length w.nodes.items
    → AreChains g w.nodes.items w.starts.items w.positions.items w.chain_start.items n
    → IfSome w.cover (IsPathCover g w.nodes.items) → IsReachIndex g w
IsReachIndex-from_chains g w n in_range end chains cover = record {
  in_range = in_range;
  one_start_each = chains.one_start_each ∙ end;
  each_node = chains.each_node;
  start = λ p below. let s = chains.start p (omega (arith, end)) in (omega (arith, s.0, end), s.1);
  down = λ k q k_in low up. let d = chains.down k q k_in low up in (omega (arith, d.0, end), d.1);
  cover = cover;
}
