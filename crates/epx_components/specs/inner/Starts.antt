-- The groups of a row: the position where each starts, in rising order.
use Rattle.std.specs.Prelude.{◌≡◌, ℕ, ◌<◌, ◌≤◌, List, length, take, slice_index}

-- numbers below n, each greater than those before it
pub record AreRisingBelow (xs : List ℕ) (n : ℕ) : Type 0 where
  pub below : (i : ℕ) → i < length xs → slice_index xs i < n
  pub rises : (i j : ℕ) → i < j → j < length xs → slice_index xs i < slice_index xs j

-- position q is in the group of p or in a later one
abbrev pub IsInGroupFrom : List ℕ → ℕ → ℕ → Type 0
IsInGroupFrom starts p q = (i : ℕ) → i < length starts → slice_index starts i ≤ p
    → slice_index starts i ≤ q

-- position p is in the last group
abbrev pub IsInLastGroup : List ℕ → ℕ → Type 0
IsInLastGroup starts p = (i : ℕ) → i < length starts → slice_index starts i ≤ p

-- new is old without the numbers greater than t
pub record IsCutAbove (t : ℕ) (old new : List ℕ) : Type 0 where
  pub kept : ℕ
  pub same : new ≡ take kept old
  pub within : kept ≤ length old
  pub below : (i : ℕ) → i < kept → slice_index old i ≤ t
  pub above : (i : ℕ) → kept ≤ i → i < length old → t < slice_index old i
