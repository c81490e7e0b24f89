-- A text has one first bad line at most.
use Rattle.std.proofs.Common.{◌≡◌, ◌⊎◌, inl, inr, ℕ, ◌-◌, ◌<◌, ◌≤◌, List, take, subst, arith}
use Rattle.std.proofs.Common.{take-take}
use Rattle.epx_report.specs.BadLines.{IsFirstNotGood}

-- the first lines of good ones are good
module _ (AreGood : List (List ℕ) → Type 0)
    (shorter : (n : ℕ) (lines : List (List ℕ)) → AreGood lines → AreGood (take n lines))
    (lines : List (List ℕ)) where
  -- if all lines are good, none is bad
  pub IsFirstNotGood-if_good : (line : ℕ) → AreGood lines → ¬ IsFirstNotGood AreGood lines line
  IsFirstNotGood-if_good line good bad = bad.bad_with (shorter line lines good)

  good_until : (line other : ℕ) → line < other → IsFirstNotGood AreGood lines other
      → AreGood (take line lines)
  good_until line other l bad =
      let among : line ≤ other - 1 = omega arith in
      subst AreGood (take-take line (other - 1) lines among)
      (shorter line (take (other - 1) lines) bad.good_before)

  pub IsFirstNotGood-is_unique : (line other : ℕ) → IsFirstNotGood AreGood lines line
      → IsFirstNotGood AreGood lines other → line ≡ other
  IsFirstNotGood-is_unique line other p q =
      elim (cases line other) [
        | inl below ↦ absurd (p.bad_with (good_until line other below q))
        | inr rest ↦ elim rest [
          | inl same ↦ same
          | inr above ↦ absurd (q.bad_with (good_until other line above p))
        ]
      ]
    where
      cases : (m n : ℕ) → (m < n) ⊎ ((m ≡ n) ⊎ (n < m))
      cases m n = grind arith
