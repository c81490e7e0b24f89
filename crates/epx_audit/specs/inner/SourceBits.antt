-- Numbers whose bit b is for source b of a batch. Only the search for an uncovered pair uses this.
use Rattle.std.specs.Prelude.{◌≡◌, ◌↔◌, ℕ, ◌<◌, ◌==◌, List, Bool, length, slice_index, IsTrue}
use Rattle.std.specs.Int.{bit_at}

-- bit b of the word is set: source b is in it
abbrev pub has_bit : ℕ → ℕ → Bool
has_bit b word = bit_at word b == 1

-- the word of each slot has the bits of the sources that have this slot
abbrev pub AreSourceMarks : List ℕ → List ℕ → Type 0
AreSourceMarks slots words =
    (b s : ℕ) → b < length slots → IsTrue (has_bit b (slice_index words s))
    ↔ (slice_index slots b ≡ s)

-- the first word has the bit, and the two others do not
pub record HasAlone (b word other third : ℕ) : Type 0 where
  pub has : IsTrue (has_bit b word)
  pub first : ¬ IsTrue (has_bit b other)
  pub second : ¬ IsTrue (has_bit b third)

-- the second word has all bits of the first one
abbrev pub HasBitsOf : ℕ → ℕ → Type 0
HasBitsOf word more = (b : ℕ) → IsTrue (has_bit b word) → IsTrue (has_bit b more)
