-- The marks of pairs of positions, pair by pair.
use Rattle.std.proofs.Common.{◌≡◌, ◌↔◌, ◌⊎◌, inl, inr, ℕ, ◌+◌, ◌<◌, ◌≤◌, List, [], ◌∷◌, ◌++◌}
use Rattle.std.proofs.Common.{All, Bool, false, length, length-set, get_or, set, slice_get, Some}
use Rattle.std.proofs.Common.{Contains, IsTrue, refl, sym, subst, subst₂, ap, ◌∙◌, arith}
use Rattle.epx_types.proofs.Common.{cases_eq, cases_lt, get_or_append_left, get_or_push}
use Rattle.epx_types.proofs.Common.{get_or-set_same, get_or-set_other, length_push}
use Rattle.epx_types.proofs.Common.{get_or_from_slice_get, slice_get_within, Instance, Ranked}
use Rattle.epx_types.proofs.Common.{slice_get-from_Contains, All-push, get_or_read}
use Rattle.epx_types.proofs.Common.{All-nil, Contains-get_or}
use Rattle.epx_graph.proofs.Common.{DependencyGraph, edges_of, IsGraphOf, NodeReaches}
use Rattle.epx_graph.proofs.Common.{NodeReaches-iff}
use Rattle.epx_components.specs.between.ReadyMarks.{is_marked}
use Rattle.epx_audit.specs.declared.pair_marks.LeftPair.{LeftPair}
use Rattle.epx_audit.specs.between.RelatedPairs.{AreRelatedMarks}
use Rattle.epx_audit.specs.inner.PairMarks.{pair_at, IsExact, AreExactMarks, IsLeftPair}
use Rattle.epx_audit.specs.inner.PairMarks.{AreExactBut, left_at}
use Rattle.epx_components.specs.between.Partitions.{ComponentParts, IsPartitionOf, component_of}
use Rattle.epx_components.specs.between.Partitions.{number_for}
use Rattle.epx_components.proofs.PartitionLemmas.{component_of-within}
use Rattle.epx_audit.specs.inner.Batches.{AreReachedBy}
use Rattle.epx_audit.specs.inner.SourceBits.{has_bit}
use Rattle.epx_audit.specs.inner.ReachIndexes.{AreOrderNodes}
use Rattle.epx_audit.proofs.OrderNodeLemmas.{slice_get-order_node}

-- exact marks of nodes are exact for the instances
pub AreRelatedMarks-from_exact : (m : List Instance) (g : DependencyGraph) → IsGraphOf m g
    → (order : List Ranked) (nodes : List ℕ) → AreOrderNodes m order nodes
    → (pairs : List (ℕ × ℕ)) (marks : List Bool) → AreExactMarks (edges_of g) nodes pairs marks
    → AreRelatedMarks m order pairs marks
AreRelatedMarks-from_exact m g is order nodes are pairs marks exact = record {
  each_pair = exact.each_pair;
  exact = λ i p q r s at at_p at_q.
      let own : pair_at pairs i ≡ (p, q) = get_or_from_slice_get pairs i (p, q) _ at in
      let paths = NodeReaches-iff m g is (get_or nodes p 0) (get_or nodes q 0) r.id s.id
      (slice_get-order_node m order nodes are g is p r at_p)
      (slice_get-order_node m order nodes are g is q s at_q) in
      let mark = subst (λ (pair : ℕ × ℕ). IsTrue (is_marked marks i)
      ↔ NodeReaches (edges_of g) (get_or nodes pair.0 0) (get_or nodes pair.1 0)) own
      (exact.exact i (slice_get_within pairs i _ at)) in
      ((λ yes. paths.0 (mark.0 yes)), (λ there. mark.1 (paths.1 there)));
}

module _ (edges : ℕ → List ℕ) (nodes : List ℕ) (pairs : List (ℕ × ℕ)) where
  -- one more mark
  pub IsExact-push : (marks : List Bool) (b : Bool) (i : ℕ) → i < length marks
      → IsExact edges nodes pairs marks i → IsExact edges nodes pairs (marks ++ b ∷ []) i
  IsExact-push marks b i l old =
      let same : is_marked marks i ≡ is_marked (marks ++ b ∷ []) i =
      sym (get_or_append_left marks (b ∷ []) false i l) in
      subst (λ b. IsTrue b ↔ NodeReaches edges (get_or nodes (pair_at pairs i).0 0)
      (get_or nodes (pair_at pairs i).1 0)) same old

  pub IsExact-last : (marks : List Bool) (b : Bool) (i : ℕ) → length marks ≡ i
      → (IsTrue b ↔ NodeReaches edges (get_or nodes (pair_at pairs i).0 0)
      (get_or nodes (pair_at pairs i).1 0)) → IsExact edges nodes pairs (marks ++ b ∷ []) i
  IsExact-last marks b i last own =
      let same : b ≡ is_marked (marks ++ b ∷ []) i = sym (get_or_push marks b false i last) in
      subst (λ b. IsTrue b ↔ NodeReaches edges (get_or nodes (pair_at pairs i).0 0)
      (get_or nodes (pair_at pairs i).1 0)) same own

  -- the marks of the first n pairs, all exact but those left
  pub record AreExactBelow (left : List LeftPair) (marks : List Bool) (n : ℕ) : Type 0 where
    pub len : length marks ≡ n
    pub each_left : (o : LeftPair) → Contains left o → IsLeftPair nodes pairs o
    pub exact : (i : ℕ) → i < n → IsExact edges nodes pairs marks i
        ⊎ ((o : LeftPair) × Contains left o × (o.index ≡ i))

  pub AreExactBelow-push : (left more : List LeftPair) (marks : List Bool) (b : Bool) (n : ℕ)
      → AreExactBelow left marks n → ((o : LeftPair) → Contains left o → Contains more o)
      → ((o : LeftPair) → Contains more o → Contains left o ⊎ IsLeftPair nodes pairs o)
      → ((IsTrue b ↔ NodeReaches edges (get_or nodes (pair_at pairs n).0 0)
      (get_or nodes (pair_at pairs n).1 0))
      ⊎ ((o : LeftPair) × Contains more o × (o.index ≡ n)))
      → AreExactBelow more (marks ++ b ∷ []) (n + 1)
  AreExactBelow-push left more marks b n old keeps new here = record {
    len = length_push marks b ∙ ap (λ n. n + 1) old.len;
    each_left = λ o h. elim (new o h) [ inl was ↦ old.each_left o was | inr is ↦ is ];
    exact = λ i below. elim (cases_lt i n) [
      | inl past ↦ elim (old.exact i past) [
        | inl exact ↦ inl (IsExact-push marks b i (omega (arith, past, old.len)) exact)
        | inr other ↦ inr (other.0, keeps other.0 other.1, other.2)
      ]
      | inr last ↦
          let is : n ≡ i = omega arith in
          elim here [
            | inl own ↦ inl (subst (λ i. IsExact edges nodes pairs (marks ++ b ∷ []) i) is
                (IsExact-last marks b n old.len own))
            | inr other ↦ inr (other.0, other.1, other.2 ∙ is)
          ]
    ];
  }

  -- after the last pair, with the same pairs left in some order
  pub AreExactBut-from_below : (left sorted : List LeftPair) (marks : List Bool) (n : ℕ)
      → n ≡ length pairs → AreExactBelow left marks n
      → ((o : LeftPair) → Contains left o → Contains sorted o)
      → ((o : LeftPair) → Contains sorted o → Contains left o)
      → AreExactBut edges nodes pairs sorted marks
  AreExactBut-from_below left sorted marks n end below there back = record {
    each_pair = below.len ∙ end;
    each_left = λ o h. below.each_left o (back o h);
    exact = λ i l. elim (below.exact i (omega (arith, l, end))) [
      | inl exact ↦ inl exact
      | inr other ↦ inr (other.0, there other.0 other.1, other.2)
    ];
  }

  -- the marks of all pairs but those left from the n-th on
  pub record AreExactFrom (left : List LeftPair) (marks : List Bool) (n : ℕ) : Type 0 where
    pub each_pair : length marks ≡ length pairs
    pub exact : (i : ℕ) → i < length pairs → IsExact edges nodes pairs marks i
        ⊎ ((k : ℕ) × (n ≤ k) × (k < length left) × (o : LeftPair) × (slice_get left k ≡ Some o)
        × (o.index ≡ i))

  module _ (left : List LeftPair) (marks : List Bool) where
    pub AreExactFrom-first : AreExactBut edges nodes pairs left marks → AreExactFrom left marks 0
    AreExactFrom-first but = record {
      each_pair = but.each_pair;
      exact = λ i l. elim (but.exact i l) [
        | inl exact ↦ inl exact
        | inr other ↦
            let at = slice_get-from_Contains left other.0 other.1 in
            inr (at.0, omega arith, slice_get_within left at.0 other.0 at.1, other.0, at.1, other.2)
      ];
    }

    pub AreExactFrom-next : (n : ℕ) (o : LeftPair) (b : Bool) → slice_get left n ≡ Some o
        → o.index < length marks
        → (IsTrue b ↔ NodeReaches edges (get_or nodes (pair_at pairs o.index).0 0)
        (get_or nodes (pair_at pairs o.index).1 0)) → AreExactFrom left marks n
        → AreExactFrom left (set marks o.index b) (n + 1)
    AreExactFrom-next n o b at within own old = record {
      each_pair = length-set marks o.index b ∙ old.each_pair;
      exact = λ i l. elim (cases_eq i o.index) [
        | inl here ↦ inl (here_exact i here)
        | inr there ↦ elim (old.exact i l) [
          | inl exact ↦
              let same : is_marked marks i ≡ is_marked (set marks o.index b) i =
              sym (get_or-set_other marks o.index i b false there) in
              inl (subst (λ b. IsTrue b ↔ NodeReaches edges (get_or nodes (pair_at pairs i).0 0)
              (get_or nodes (pair_at pairs i).1 0)) same exact)
          | inr other ↦ elim (cases_lt n other.0) [
            | inl later ↦
                inr (other.0, omega (arith, later), other.2, other.3, other.4, other.5)
            | inr now ↦
                let is : other.0 ≡ n = omega (arith, other.1, now) in
                let one : Some other.3 ≡ Some o =
                sym other.4 ∙ ap (slice_get left) is ∙ at in
                let same : other.3 ≡ o = cc one in
                absurd (there (sym other.5 ∙ ap (λ (o : LeftPair). o.index) same))
          ]
        ]
      ];
    } where
      here_exact : (i : ℕ) → i ≡ o.index → IsExact edges nodes pairs (set marks o.index b) i
      here_exact i here = subst (λ i. IsExact edges nodes pairs (set marks o.index b) i) (sym here)
          (subst (λ b. IsTrue b ↔ NodeReaches edges (get_or nodes (pair_at pairs o.index).0 0)
          (get_or nodes (pair_at pairs o.index).1 0))
          (sym (get_or-set_same marks o.index b false within)) own)

    pub AreExactMarks-from_last : (n : ℕ) → length left ≤ n → AreExactFrom left marks n
        → AreExactMarks edges nodes pairs marks
    AreExactMarks-from_last n past from = record {
      each_pair = from.each_pair;
      exact = λ i l. elim (from.exact i l) [
        | inl exact ↦ exact
        | inr other ↦ absurd (omega (arith, past, other.1, other.2))
      ];
    }

-- sources of a pass that begins with the pair at this index
pub record AreNextSources (left : List LeftPair) (start : ℕ) (sources : List ℕ) : Type 0 where
  pub few : length sources ≤ 64
  pub first : (0 < length sources) × (get_or sources 0 0 ≡ (left_at left start).from)
  pub in_range : (n : ℕ) → ((o : LeftPair) → Contains left o → o.from < n)
      → All (λ k. k < n) sources

pub AreNextSources-first : (left : List LeftPair) (start : ℕ) → start < length left
    → AreNextSources left start ([] ++ (left_at left start).from ∷ [])
AreNextSources-first left start l = record {
  few = omega arith;
  first = (omega arith, refl);
  in_range = λ n each. All-push (λ k. k < n) [] (left_at left start).from (All-nil (λ k. k < n))
      (each (left_at left start) (Contains-get_or left start _ l));
}

pub AreNextSources-push : (left : List LeftPair) (start : ℕ) (sources : List ℕ) (i : ℕ)
    → i < length left
    → length sources < 64 → AreNextSources left start sources
    → AreNextSources left start (sources ++ (left_at left i).from ∷ [])
AreNextSources-push left start sources i l few old = record {
  few = omega (arith, length_push sources (left_at left i).from, few);
  first = (
    omega (arith, length_push sources (left_at left i).from),
    get_or_append_left sources ((left_at left i).from ∷ []) 0 0 old.first.0 ∙ old.first.1,
  );
  in_range = λ n each. All-push (λ k. k < n) sources (left_at left i).from
      (old.in_range n each) (each (left_at left i) (Contains-get_or left i _ l));
}

-- the sources of a pass, and which of them reach each component
pub record IsPass (g : DependencyGraph) (p : ComponentParts) (sources reached : List ℕ) : Type 0
  where
    pub few : length sources ≤ 64
    pub words : 0 < length sources → length reached ≡ p.count
    pub bits : AreReachedBy g p sources reached

-- the bit of a pass is for this node
pub record IsPassFor (g : DependencyGraph) (p : ComponentParts) (sources reached : List ℕ)
    (bit node : ℕ) : Type 0 where
  pub pass : IsPass g p sources reached
  pub at : (bit < length sources) × (get_or sources bit 0 ≡ node)

pub IsPassFor-same : (g : DependencyGraph) (p : ComponentParts)
    (sources reached now_sources now_reached : List ℕ) (bit now_bit node : ℕ)
    → now_sources ≡ sources → now_reached ≡ reached → now_bit ≡ bit → IsPass g p sources reached
    → (bit < length sources) × (get_or sources bit 0 ≡ node)
    → IsPassFor g p now_sources now_reached now_bit node
IsPassFor-same g p sources reached now_sources now_reached bit now_bit node same_sources
    same_reached
    same_bit pass at = record {
      pass = subst₂ (IsPass g p) (sym same_sources) (sym same_reached) pass;
      at = subst₂ (λ (xs : List ℕ) (b : ℕ). (b < length xs) × (get_or xs b 0 ≡ node))
          (sym same_sources) (sym same_bit) at;
    }

module _ (g : DependencyGraph) (p : ComponentParts) (is : IsPartitionOf g p)
    (sources reached : List ℕ) (bit : ℕ) (o : LeftPair)
    (pass : IsPassFor g p sources reached bit o.from) (within : o.to < length g.ids) (own : ℕ)
    (read : own ≡ get_or p.component o.to own) where
  own_component : own ≡ component_of p o.to
  own_component =
      get_or_read p.component o.to own (omega (arith, within, is.each_node)) read 0

  -- the component has a word
  pub reached-within : own < length reached
  reached-within = omega (
    arith,
    own_component,
    component_of-within (edges_of g) p is.is o.to (omega (arith, within, is.each_node)),
    pass.pass.words (omega (arith, pass.at.0)),
  )

  -- the bit of the word is exact for the pair
  pub has_bit-exact : (nodes : List ℕ) (pairs : List (ℕ × ℕ)) → IsLeftPair nodes pairs o
      → (word : ℕ)
      → word ≡ get_or reached own word → (b : Bool) → b ≡ has_bit bit word
      → IsTrue b ↔ NodeReaches (edges_of g) (get_or nodes (pair_at pairs o.index).0 0)
      (get_or nodes (pair_at pairs o.index).1 0)
  has_bit-exact nodes pairs left word word_read b is_bit =
      let at : word ≡ number_for p reached o.to =
      get_or_read reached own word reached-within word_read 0
      ∙ ap (λ c. get_or reached c 0) own_component in
      let exact = pass.pass.bits bit o.to pass.at.0 within in
      let from : get_or sources bit 0 ≡ get_or nodes (pair_at pairs o.index).0 0 =
      pass.at.1 ∙ left.from in
      let same : has_bit bit (number_for p reached o.to) ≡ b =
      ap (has_bit bit) (sym at) ∙ sym is_bit in
      subst₂ (λ (b : Bool) (k : ℕ). IsTrue b
      ↔ NodeReaches (edges_of g) k (get_or nodes (pair_at pairs o.index).1 0)) same from
      (subst (λ j. IsTrue (has_bit bit (number_for p reached o.to))
      ↔ NodeReaches (edges_of g) (get_or sources bit 0) j) left.to exact)
