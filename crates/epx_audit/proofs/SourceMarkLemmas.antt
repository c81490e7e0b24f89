-- Words to which the sources are added one by one.
use Rattle.std.proofs.Common.{◌≡◌, ◌↔◌, inl, inr, ℕ, ◌+◌, ◌^◌, ◌<◌, List, length, get_or, set}
use Rattle.std.proofs.Common.{bit_or, IsTrue, sym, ap, ◌∙◌, arith}
use Rattle.epx_types.proofs.Common.{cases_eq, cases_lt, bit_at}
use Rattle.std.proofs.lemmas.Nat.Bits.{bit_at-pow_same, bit_at-pow_other}
use Rattle.epx_audit.specs.inner.SourceBits.{has_bit}
use Rattle.epx_audit.proofs.BitLemmas.{has_bit-bit_at, has_bit-set_or}

-- the bits of the first n sources
abbrev pub AreMarked : List ℕ → List ℕ → ℕ → Type 0
AreMarked slots words n = (b s : ℕ) → IsTrue (has_bit b (get_or words s 0))
    ↔ ((b < n) × (get_or slots b 0 ≡ s))

pow_bit : (n b : ℕ) → IsTrue (has_bit b (2 ^ n)) ↔ (b ≡ n)
pow_bit n b = elim (cases_eq b n) [
  | inl same ↦ (
    (λ _. same),
    λ _. (has_bit-bit_at b (2 ^ n)).1
        (ap (λ b. bit_at (2 ^ n) b) same ∙ bit_at-pow_same n),
  )
  | inr differ ↦ (
    (λ h. absurd (omega (arith, (has_bit-bit_at b (2 ^ n)).0 h, bit_at-pow_other n b differ))),
    λ same. absurd (differ same),
  )
]

pub AreMarked-next : (slots words : List ℕ) (n : ℕ) → get_or slots n 0 < length words
    → AreMarked slots words n → AreMarked slots
    (set words (get_or slots n 0) (bit_or (get_or words (get_or slots n 0) 0) (2 ^ n))) (n + 1)
AreMarked-next slots words n within old b s =
    let changed = has_bit-set_or words (get_or slots n 0) (2 ^ n) within b s in (
      λ h. elim (changed.0 h) [
        | inl was ↦ let o = (old b s).0 was in (omega (arith, o.0), o.1)
        | inr now ↦
            let same : b ≡ n = (pow_bit n b).0 now.1 in
            (omega (arith, same), ap (λ b. get_or slots b 0) same ∙ now.0)
      ],
      λ h. changed.1 (elim (cases_lt b n) [
        | inl past ↦ inl ((old b s).1 (past, h.1))
        | inr here ↦
            let same : b ≡ n = omega (arith, h.0) in
            inr (sym (ap (λ b. get_or slots b 0) same) ∙ h.1, (pow_bit n b).1 same)
      ]),
    )
