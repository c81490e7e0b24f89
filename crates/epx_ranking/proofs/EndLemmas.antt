-- The greatest end of the components below each.
use Rattle.std.proofs.Common.{◌≡◌, ◌≢◌, ◌↔◌, ◌⊎◌, inl, inr, ℕ, ◌-◌, ◌<◌, ◌≤◌, List, length, get_or}
use Rattle.std.proofs.Common.{replicate, arith}
use Rattle.epx_types.proofs.Common.{cases_lt}
use Rattle.epx_graph.proofs.Common.{NodeReaches}
use Rattle.epx_ranking.specs.inner.Ends.{IsEndBelow}
use Rattle.epx_components.specs.between.Collections.{AreCollected}
use Rattle.epx_components.specs.between.Partitions.{ComponentParts, IsPartition, component_of}
use Rattle.epx_components.specs.between.Partitions.{number_for}
use Rattle.epx_components.proofs.CollectionLemmas.{AreCollected-from_others}

module _ (edges : ℕ → List ℕ) (p : ComponentParts) (is : IsPartition edges p)
    (ends below first : List ℕ) (n : ℕ) (zeros : first ≡ replicate n 0)
    (all : (t : ℕ) → AreCollected edges p (length p.order) (λ c. t < get_or first c 0)
    (λ c. (t < get_or ends c 0) ⊎ (t < get_or below c 0)) (λ c. t < get_or below c 0)) where
  later : (t k : ℕ) → k < length p.component → (t < number_for p below k)
      ↔ ((j : ℕ) × NodeReaches edges k j × (t < number_for p ends j)
      × (component_of p j ≢ component_of p k))
  later t = AreCollected-from_others edges p is first n t (λ c. t < get_or ends c 0)
      (λ c. (t < get_or ends c 0) ⊎ (t < get_or below c 0)) (λ c. t < get_or below c 0) zeros
      (all t) (λ c. ((λ h. h), λ h. h))

  end_below : (k j : ℕ) → k < length p.component → NodeReaches edges k j
      → component_of p j ≢ component_of p k → number_for p ends j ≤ number_for p below k
  end_below k j l there other =
      elim (cases_lt (number_for p below k) (number_for p ends j)) [
        | inl more ↦ absurd (omega
            (arith, (later (number_for p below k) k l).1 (j, there, more, other)))
        | inr most ↦ omega (arith, most)
      ]

  pub IsEndBelow-exact : (k : ℕ) → k < length p.component
      → IsEndBelow edges p ends k (number_for p below k)
  IsEndBelow-exact k l = record {
    all = λ j there other. end_below k j l there other;
    one = elim (cases_lt 0 (number_for p below k)) [
      | inl some ↦
          let (j, there, least, other) = (later (number_for p below k - 1) k l).0
          (omega (arith, some)) in
          inr (j, there, other, omega (arith, some, least, end_below k j l there other))
      | inr none ↦ inl (omega (arith, none))
    ];
  }
