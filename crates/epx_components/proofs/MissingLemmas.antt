-- The nodes that reach a missing one.
use Rattle.std.proofs.Common.{◌≡◌, ◌↔◌, ℕ, ◌<◌, ◌≤◌, List, length, refl, sym, arith}
use Rattle.epx_graph.proofs.Common.{NodeReaches}
use Rattle.epx_components.specs.between.Collections.{AreCollected}
use Rattle.epx_components.specs.between.MissingNodes.{ReachesMissing}
use Rattle.epx_components.specs.between.Partitions.{ComponentParts, IsPartition, component_of}
use Rattle.epx_components.proofs.CollectionLemmas.{AreCollected-same}
use Rattle.epx_components.proofs.NodePathLemmas.{NodeReaches-within, NodeReaches-trans}

-- component c has one of the nodes from the first number up to the second
abbrev pub HasNodeIn : ComponentParts → ℕ → ℕ → ℕ → Type 0
HasNodeIn p from to c = (k : ℕ) × (from ≤ k) × (k < to) × (component_of p k ≡ c)

module _ (edges : ℕ → List ℕ) (p : ComponentParts) (is : IsPartition edges p)
    (committed : ℕ) (First : ℕ → Type 0) (n : ℕ) (whole : n ≡ length p.component)
    (first : (c : ℕ) → First c ↔ HasNodeIn p committed n c) where
  missing_below : (k m : ℕ) → k < length p.component → NodeReaches edges k m
      → m < length p.component
  missing_below k m l there = NodeReaches-within edges (length p.component) is.within k m l there

  pub ReachesMissing-by_marks : (Has : ℕ → Type 0)
      → AreCollected edges p (length p.order) First Has Has → (k : ℕ) → k < length p.component
      → Has (component_of p k) ↔ ReachesMissing edges committed k
  ReachesMissing-by_marks Has all k l =
      let both = AreCollected-same edges p is First Has all k l in (
        λ h.
            let (j, there, at) = both.0 h in
            let (m, le, lt, same) = (first (component_of p j)).0 at in (
              m,
              le,
              NodeReaches-trans edges k j m there
                  (is.joined j m (missing_below k j l there) (omega (arith, lt, whole)) (sym same)),
            ),
        λ (m, le, there). both.1 (
          m,
          there,
          (first (component_of p m)).1
              (m, le, omega (arith, whole, missing_below k m l there), refl),
        ),
      )

  pub ReachesMissing-if_none : committed ≡ length p.component → (k : ℕ) → k < length p.component
      → First (component_of p k) ↔ ReachesMissing edges committed k
  ReachesMissing-if_none all k l = (
    λ h. let (m, le, lt, same) = (first (component_of p k)).0 h in
        absurd (omega (arith, all, whole, le, lt)),
    λ (m, le, there). absurd (omega (arith, all, le, missing_below k m l there)),
  )
