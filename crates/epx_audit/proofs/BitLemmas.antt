-- Words to which bits are added.
use Rattle.std.proofs.Common.{◌≡◌, ◌↔◌, ◌⊎◌, inl, inr, ℕ, ◌^◌, ◌<◌, List, Bool, false, length}
use Rattle.std.proofs.Common.{get_or, set, map, bit_or, bit_and, w64, IsTrue, sym, subst, ap, ◌∙◌}
use Rattle.std.proofs.Common.{arith, tests}
use Rattle.epx_types.proofs.Common.{cases_Bool, cases_eq, cases_lt, false≢true, get_or_past}
use Rattle.epx_types.proofs.Common.{get_or-set_same, get_or-set_other, length-map, bit_at}
use Rattle.std.proofs.lemmas.List.{get_or-map}
use Rattle.std.proofs.lemmas.Nat.Bits.{bit_at-lt, bit_at-zero, bit_at_or, bit_at_and, bit_at_not}
use Rattle.std.specs.Int.{bit_not}
use Rattle.epx_audit.specs.inner.SourceBits.{has_bit}

pub has_bit-bit_at : (b w : ℕ) → IsTrue (has_bit b w) ↔ (bit_at w b ≡ 1)
has_bit-bit_at b w = grind (arith, tests)

pub bit_at-none : (b w : ℕ) → has_bit b w ≡ false → bit_at w b ≡ 0
bit_at-none b w none = elim (cases_lt 0 (bit_at w b)) [
  | inl some ↦ absurd
      (false≢true (sym none ∙ (has_bit-bit_at b w).1 (omega (arith, some, bit_at-lt w b))))
  | inr not ↦ omega arith
]

pub has_bit-zero : (b : ℕ) → ¬ IsTrue (has_bit b 0)
has_bit-zero b h = omega (arith, (has_bit-bit_at b 0).0 h, bit_at-zero b)

pub has_bit-or : (b v w : ℕ) → IsTrue (has_bit b (bit_or v w))
    ↔ (IsTrue (has_bit b v) ⊎ IsTrue (has_bit b w))
has_bit-or b v w = (
  λ h. elim (cases_Bool (has_bit b v)) [
    | inl has ↦ inl has
    | inr lacks ↦ inr
        ((has_bit-bit_at b w).1
        (omega
        (arith, (has_bit-bit_at b (bit_or v w)).0 h, bit_at_or v w b, bit_at-none b v lacks)))
  ],
  λ h. (has_bit-bit_at b (bit_or v w)).1 (elim h [
    | inl first ↦ omega (arith, (has_bit-bit_at b v).0 first, bit_at_or v w b, bit_at-lt w b)
    | inr second ↦ omega (arith, (has_bit-bit_at b w).0 second, bit_at_or v w b, bit_at-lt v b)
  ]),
)

-- after bits are added to one word
pub has_bit-set_or : (words : List ℕ) (k v : ℕ) → k < length words → (b c : ℕ)
    → IsTrue (has_bit b (get_or (set words k (bit_or (get_or words k 0) v)) c 0))
    ↔ (IsTrue (has_bit b (get_or words c 0)) ⊎ ((k ≡ c) × IsTrue (has_bit b v)))
has_bit-set_or words k v l b c = elim (cases_eq c k) [
  | inl same ↦
      let is : get_or new c 0 ≡ bit_or (get_or words k 0) v =
      ap (λ c. get_or new c 0) same ∙ get_or-set_same words k more 0 l in (
        λ h. elim ((has_bit-or b (get_or words k 0) v).0 (subst (λ w. IsTrue (has_bit b w)) is h)) [
          | inl was ↦ inl (subst (λ c. IsTrue (has_bit b (get_or words c 0))) (sym same) was)
          | inr now ↦ inr (sym same, now)
        ],
        λ h. subst (λ w. IsTrue (has_bit b w)) (sym is)
            ((has_bit-or b (get_or words k 0) v).1 (elim h [
              | inl was ↦ inl (subst (λ c. IsTrue (has_bit b (get_or words c 0))) same was)
              | inr now ↦ inr now.1
            ])),
      )
  | inr differ ↦
      let is : get_or new c 0 ≡ get_or words c 0 = get_or-set_other words k c more 0 differ in (
        λ h. inl (subst (λ w. IsTrue (has_bit b w)) is h),
        λ h. elim h [
          | inl was ↦ subst (λ w. IsTrue (has_bit b w)) (sym is) was
          | inr now ↦ absurd (differ (sym now.0))
        ],
      )
] where
  more : ℕ
  more = bit_or (get_or words k 0) v

  new : List ℕ
  new = set words k more

-- bit b of each word
abbrev pub bits_of : ℕ → List ℕ → List Bool
bits_of b words = map (has_bit b) words

pub bits_of-get_or : (b : ℕ) (words : List ℕ) (c : ℕ)
    → get_or (bits_of b words) c false ≡ has_bit b (get_or words c 0)
bits_of-get_or b words c = elim (cases_lt c (length words)) [
  | inl within ↦ get_or-map (has_bit b) words c 0 false within
  | inr past ↦
      let none : has_bit b 0 ≡ false = elim (cases_Bool (has_bit b 0))
      [ inl has ↦ absurd (has_bit-zero b has) | inr lacks ↦ lacks ] in
      get_or_past (bits_of b words) c false (omega (arith, past, length-map words (has_bit b)))
      ∙ sym (ap (has_bit b) (get_or_past words c 0 (omega (arith, past))) ∙ none)
]

bit_zero : (b w : ℕ) → ¬ IsTrue (has_bit b w) → bit_at w b ≡ 0
bit_zero b w not = elim (cases_Bool (has_bit b w))
    [ inl has ↦ absurd (not has) | inr lacks ↦ bit_at-none b w lacks ]

-- the bits of s that are in neither r nor t
pub has_bit-candidates : (s r t b : ℕ) → b < 64 → bit_or r t < 2 ^ 64
    → IsTrue (has_bit b (bit_and s (bit_not w64 (bit_or r t))))
    ↔ (IsTrue (has_bit b s) × (¬ IsTrue (has_bit b r)) × (¬ IsTrue (has_bit b t)))
has_bit-candidates s r t b l fits =
    let rest = bit_not w64 (bit_or r t) in
    let joined = bit_at_and s rest b in
    let turned = bit_at_not w64 (bit_or r t) b fits l in
    let either = bit_at_or r t b in (
      λ h.
          let one = (has_bit-bit_at b (bit_and s rest)).0 h in (
            (has_bit-bit_at b s).1 (omega (arith, one, joined, bit_at-lt s b)),
            (λ hr. omega
                (arith, one, joined, turned, either, (has_bit-bit_at b r).0 hr, bit_at-lt t b)),
            (λ ht. omega
                (arith, one, joined, turned, either, (has_bit-bit_at b t).0 ht, bit_at-lt r b)),
          ),
      λ h. (has_bit-bit_at b (bit_and s rest)).1
          (omega (
            arith,
            joined,
            turned,
            either,
            (has_bit-bit_at b s).0 h.0,
            bit_zero b r h.1,
            bit_zero b t h.2,
          )),
    )
