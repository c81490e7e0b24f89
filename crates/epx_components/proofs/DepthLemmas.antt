-- The depths of components, from those of the components below them.
use Rattle.std.proofs.Common.{◌≡◌, ◌≢◌, ◌↔◌, inl, inr, ℕ, zero, suc, ◌+◌, ◌-◌, ◌^◌, ◌<◌, ◌≤◌, min}
use Rattle.std.proofs.Common.{List, [], ◌∷◌, length, get_or, replicate, refl, ap, arith}
use Rattle.epx_types.proofs.Common.{cases_lt, get_or_past, Contains-get_or}
use Rattle.epx_graph.proofs.Common.{NodeReaches}
use Rattle.epx_components.specs.between.Collections.{AreCollected}
use Rattle.epx_components.specs.between.NodeDepths.{NodeDescends, IsNodeDepth}
use Rattle.epx_components.specs.between.Partitions.{ComponentParts, IsPartition, component_of}
use Rattle.epx_components.specs.between.Partitions.{node_at}
use Rattle.epx_components.specs.between.Partitions.{number_for}
use Rattle.epx_components.proofs.CollectionLemmas.{AreCollected-from_others, get_or-replicate_zero}
use Rattle.epx_components.proofs.NodePathLemmas.{NodeReaches-within, NodeReaches-falls}

module _ (edges : ℕ → List ℕ) (p : ComponentParts) (is : IsPartition edges p) (depths : List ℕ)
    (len : length depths ≡ p.count) (fits : p.count < 2 ^ 64) (first : List ℕ)
    (zeros : first ≡ replicate p.count 0)
    (all : (t : ℕ) → AreCollected edges p (length p.order) (λ c. t < get_or first c 0)
    (λ c. t < min (get_or depths c 0 + 1) (2 ^ 64 - 1)) (λ c. t < get_or depths c 0)) where
  -- a descent falls by a component with each step
  low : (m c : ℕ) → c < m → get_or depths c 0 ≤ c
  low zero c l = absurd (omega (arith, l))
  low (suc m) c l = elim (cases_lt c (get_or depths c 0)) [
    | inl deep ↦ elim ((all c c).0 deep) [
      | inl some ↦ absurd (get_or-replicate_zero first p.count c c zeros some)
      | inr (q, lq, at, (i, li, ne, more)) ↦
          let b = node_at p q in
          let down = is.falls b _ (Contains-get_or (edges b) i 0 li) in
          absurd (omega (
            arith,
            more,
            at,
            ne,
            down,
            low m (component_of p (get_or (edges b) i 0)) (omega (arith, l, at, ne, down)),
          ))
    ]
    | inr shallow ↦ omega (arith, shallow)
  ]

  below_max : (c : ℕ) → get_or depths c 0 < 2 ^ 64 - 1
  below_max c = elim (cases_lt c p.count) [
    | inl within ↦ omega (arith, within, fits, low (c + 1) c (omega arith))
    | inr past ↦ omega (arith, get_or_past depths c 0 (omega (arith, len, past)))
  ]

  -- a node is deeper than t if it reaches a node of another component with depth t at least
  deeper : (t k : ℕ) → k < length p.component → (t < number_for p depths k)
      ↔ ((j : ℕ) × NodeReaches edges k j × (t ≤ number_for p depths j)
      × (component_of p j ≢ component_of p k))
  deeper t = AreCollected-from_others edges p is first p.count t (λ c. t ≤ get_or depths c 0)
      (λ c. t < min (get_or depths c 0 + 1) (2 ^ 64 - 1))
      (λ c. t < get_or depths c 0) zeros (all t) (λ c. (
        (λ h. inl (omega (arith, h))),
        λ h. elim h [
          | inl le ↦ omega (arith, le, below_max c)
          | inr lt ↦ omega (arith, lt, below_max c)
        ],
      ))

  -- there are descents of each length up to the depth
  descent : (d k : ℕ) → k < length p.component → d ≤ number_for p depths k
      → (cs : List ℕ) × NodeDescends edges k cs × (length cs ≡ d)
  descent zero k l le = ([], tt, refl)
  descent (suc d) k l le =
      let (j, there, enough, other) = (deeper d k l).0 (omega (arith, le)) in
      let within = NodeReaches-within edges (length p.component) is.within k j l there in
      let (cs, rest, of) = descent d j within enough in
      let apart : ¬ NodeReaches edges j k = λ back. other (omega (
        arith,
        NodeReaches-falls edges p.component is.falls k j there,
        NodeReaches-falls edges p.component is.falls j k back,
      )) in
      (j ∷ cs, (there, apart, rest), ap suc of)

  descent_short : (k : ℕ) (cs : List ℕ) → k < length p.component → NodeDescends edges k cs
      → length cs ≤ number_for p depths k
  descent_short k [] l h = omega arith
  descent_short k (c ∷ cs) l (there, apart, rest) =
      let within = NodeReaches-within edges (length p.component) is.within k c l there in
      let other : component_of p c ≢ component_of p k = λ same.
      apart (is.joined c k within l same) in
      (deeper (length cs) k l).1 (c, there, descent_short c cs within rest, other)

  pub IsNodeDepth-from_depths : (k : ℕ) → k < length p.component
      → IsNodeDepth edges k (number_for p depths k)
  IsNodeDepth-from_depths k l = record {
    descent = descent (number_for p depths k) k l (omega arith);
    longest = λ cs. descent_short k cs l;
  }
