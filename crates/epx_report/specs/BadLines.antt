-- Which line of a text is the first bad one.
use Rattle.std.specs.Prelude.{ℕ, ◌-◌, List, take}

-- the lines before the one with this number are good together, and with it they are not; lines are
-- numbered from 1
pub record IsFirstNotGood (AreGood : List (List ℕ) → Type 0) (lines : List (List ℕ))
    (line : ℕ) : Type 0 where
  pub good_before : AreGood (take (line - 1) lines)
  pub bad_with : ¬ AreGood (take line lines)
