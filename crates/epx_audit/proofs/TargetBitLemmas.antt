-- Words to which the targets of edges are added.
use Rattle.std.proofs.Common.{◌≡◌, ◌↔◌, ◌⊎◌, inl, inr, ℕ, ◌+◌, ◌<◌, List, length, get_or, set}
use Rattle.std.proofs.Common.{bit_or, IsTrue, ap, ◌∙◌, arith}
use Rattle.epx_types.proofs.Common.{cases_lt}
use Rattle.epx_audit.specs.inner.SourceBits.{has_bit}
use Rattle.epx_audit.proofs.BitLemmas.{has_bit-set_or}

module _ (component targets : List ℕ) where
  -- the word is added to the components of the first n targets
  abbrev pub AreAdded : List ℕ → List ℕ → ℕ → ℕ → Type 0
  AreAdded words new word n = (b c : ℕ) → IsTrue (has_bit b (get_or new c 0))
      ↔ (IsTrue (has_bit b (get_or words c 0))
      ⊎ (IsTrue (has_bit b word) × (i : ℕ) × (i < n)
      × (get_or component (get_or targets i 0) 0 ≡ c)))

  pub AreAdded-next : (words new : List ℕ) (word n : ℕ)
      → get_or component (get_or targets n 0) 0 < length new → AreAdded words new word n
      → AreAdded words (set new (get_or component (get_or targets n 0) 0)
      (bit_or (get_or new (get_or component (get_or targets n 0) 0) 0) word)) word (n + 1)
  AreAdded-next words new word n within old b c =
      let changed =
      has_bit-set_or new (get_or component (get_or targets n 0) 0) word within b c in (
        λ h. elim (changed.0 h) [
          | inl was ↦ elim ((old b c).0 was) [
            | inl first ↦ inl first
            | inr (has, i, below, at) ↦ inr (has, i, omega (arith, below), at)
          ]
          | inr (at, has) ↦ inr (has, n, omega arith, at)
        ],
        λ h. changed.1 (elim h [
          | inl first ↦ inl ((old b c).1 (inl first))
          | inr (has, i, below, at) ↦ elim (cases_lt i n) [
            | inl past ↦ inl ((old b c).1 (inr (has, i, past, at)))
            | inr here ↦
                let same : n ≡ i = omega (arith, below) in
                inr (ap (λ i. get_or component (get_or targets i 0) 0) same ∙ at, has)
          ]
        ]),
      )
