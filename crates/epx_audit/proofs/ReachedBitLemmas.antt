-- Marks of components for several sources, one bit for each source.
use Rattle.std.proofs.Common.{◌≡◌, ◌↔◌, ◌⊎◌, inl, inr, ℕ, ◌+◌, ◌<◌, List, false, All, length}
use Rattle.std.proofs.Common.{get_or, map, IsTrue, refl, sym, ◌∙◌, arith}
use Rattle.epx_types.proofs.Common.{cases_Bool, false≢true, length-map, All-get_or}
use Rattle.std.proofs.lemmas.List.{get_or-map}
use Rattle.epx_graph.proofs.Common.{NodeReaches}
use Rattle.epx_components.specs.between.Collections.{AreCollected}
use Rattle.epx_components.specs.between.Partitions.{ComponentParts, IsPartition, component_of}
use Rattle.epx_components.specs.between.Partitions.{node_at}
use Rattle.epx_components.specs.between.Partitions.{number_for}
use Rattle.epx_components.proofs.CollectionLemmas.{AreCollected-same}
use Rattle.epx_components.proofs.NodePathLemmas.{NodeReaches-within, NodeReaches-trans}
use Rattle.epx_audit.specs.inner.SourceBits.{has_bit, AreSourceMarks}
use Rattle.epx_audit.proofs.BitLemmas.{bits_of, bits_of-get_or}
use Rattle.epx_audit.proofs.ReachedMarkLemmas.{AreReached, AreReached-from_root, AreReached-same}
use Rattle.epx_audit.proofs.ReachedMarkLemmas.{AreReached-skip, AreReached-step}
use Rattle.epx_audit.proofs.ReachedMarkLemmas.{mark_for-decides_reached}

-- bit b of the words, after the nodes of the order from n on
abbrev pub AreReachedBits : (ℕ → List ℕ) → ComponentParts → List ℕ → List ℕ → ℕ → Type 0
AreReachedBits edges p sources words n = (b : ℕ) → b < length sources
    → AreReached edges p (get_or sources b 0) (bits_of b words) n

module _ (edges : ℕ → List ℕ) (p : ComponentParts) (is : IsPartition edges p)
    (sources : List ℕ) where
  mark_bit : (b : ℕ) (words : List ℕ) (c : ℕ)
      → IsTrue (get_or (bits_of b words) c false) ↔ IsTrue (has_bit b (get_or words c 0))
  mark_bit b words c =
      ((λ h. sym (bits_of-get_or b words c) ∙ h), λ h. bits_of-get_or b words c ∙ h)

  -- the bits of source b, where the words have the sources in each component
  module _ (words : List ℕ) (marks : AreSourceMarks (map (component_of p) sources) words) where
    source_bit : (b c : ℕ) → b < length sources → IsTrue (has_bit b (get_or words c 0))
        ↔ (component_of p (get_or sources b 0) ≡ c)
    source_bit b c l =
        let home = get_or-map (component_of p) sources b 0 0 l in
        let mark = marks b c (omega (arith, l, length-map sources (component_of p))) in
        ((λ h. sym home ∙ mark.0 h), λ at. mark.1 (home ∙ at))

    pub AreReachedBits-first : All (λ k. k < length p.component) sources
        → AreReachedBits edges p sources words (length p.order)
    AreReachedBits-first below b l =
        AreReached-from_root edges p is (get_or sources b 0) (bits_of b words)
        (All-get_or (λ k. k < length p.component) sources b 0 l below) (λ c. (
          λ h. (source_bit b c l).0 ((mark_bit b words c).0 h),
          λ at. (mark_bit b words c).1 ((source_bit b c l).1 at),
        ))

    -- words in which each component has the bits of those below it
    pub NodeReaches-reaching_bits : All (λ k. k < length p.component) sources → (b : ℕ)
        → b < length sources
        → (Has : ℕ → Type 0) → AreCollected edges p (length p.order)
        (λ c. IsTrue (has_bit b (get_or words c 0))) Has Has → (k : ℕ) → k < length p.component
        → Has (component_of p k) ↔ NodeReaches edges k (get_or sources b 0)
    NodeReaches-reaching_bits below b l Has all k lk =
        let source = get_or sources b 0 in
        let both =
        AreCollected-same edges p is (λ c. IsTrue (has_bit b (get_or words c 0))) Has all k
        lk in (
          λ h.
              let (j, there, at) = both.0 h in
              let lj = NodeReaches-within edges (length p.component) is.within k j lk there in
              let ls = All-get_or (λ k. k < length p.component) sources b 0 l below in
              NodeReaches-trans edges k j source there
              (is.joined j source lj ls (sym ((source_bit b (component_of p j) l).0 at))),
          λ there. both.1 (source, there, (source_bit b (component_of p source) l).1 refl),
        )

  pub AreReachedBits-step : (words new : List ℕ) (n : ℕ) → n < length p.order
      → ((b c : ℕ) → IsTrue (has_bit b (get_or new c 0))
      ↔ (IsTrue (has_bit b (get_or words c 0))
      ⊎ (IsTrue (has_bit b (number_for p words (node_at p n))) × (i : ℕ)
      × (i < length (edges (node_at p n)))
      × (get_or p.component (get_or (edges (node_at p n)) i 0) 0 ≡ c))))
      → AreReachedBits edges p sources words (n + 1) → AreReachedBits edges p sources new n
  AreReachedBits-step words new n l changed old b lb =
      elim (cases_Bool (has_bit b (number_for p words (node_at p n)))) [
        | inl has ↦ AreReached-step edges p is (get_or sources b 0) (bits_of b words)
            (bits_of b new)
            n l
            ((mark_bit b words _).1 has) (λ c. (
              λ h. elim ((changed b c).0 ((mark_bit b new c).0 h)) [
                | inl was ↦ inl ((mark_bit b words c).1 was)
                | inr now ↦ inr (now.1, now.2, now.3)
              ],
              λ h. (mark_bit b new c).1
                  ((changed b c).1
                  (elim h [
                    | inl was ↦ inl ((mark_bit b words c).0 was)
                    | inr now ↦ inr (has, now.0, now.1, now.2)
                  ])),
            )) (old b lb)
        | inr lacks ↦ AreReached-same edges p is (get_or sources b 0) (bits_of b words)
            (bits_of b new) n
            (λ c. (
              λ h. elim ((changed b c).0 ((mark_bit b new c).0 h)) [
                | inl was ↦ (mark_bit b words c).1 was
                | inr now ↦ absurd (false≢true (sym lacks ∙ now.0))
              ],
              λ h. (mark_bit b new c).1 ((changed b c).1 (inl ((mark_bit b words c).0 h))),
            )) (AreReached-skip edges p is (get_or sources b 0) (bits_of b words) n
            (λ h. false≢true (sym lacks ∙ (mark_bit b words _).0 h)) (old b lb))
      ]

  -- a node without any bit changes nothing
  pub AreReachedBits-skip : (words : List ℕ) (n : ℕ)
      → ((b : ℕ) → ¬ IsTrue (has_bit b (number_for p words (node_at p n))))
      → AreReachedBits edges p sources words (n + 1) → AreReachedBits edges p sources words n
  AreReachedBits-skip words n none old b lb =
      AreReached-skip edges p is (get_or sources b 0) (bits_of b words) n
      (λ h. none b ((mark_bit b words _).0 h)) (old b lb)

  pub has_bit-decides_reached : (words : List ℕ) → AreReachedBits edges p sources words 0
      → (b k : ℕ)
      → b < length sources → get_or sources b 0 < length p.component → k < length p.component
      → IsTrue (has_bit b (number_for p words k)) ↔ NodeReaches edges (get_or sources b 0) k
  has_bit-decides_reached words all b k lb in' lk =
      let marks = mark_for-decides_reached edges p is (get_or sources b 0) (bits_of b words)
      (all b lb) in' k
      lk in
      ((λ h. marks.0 ((mark_bit b words _).1 h)), λ there. (mark_bit b words _).0 (marks.1 there))
