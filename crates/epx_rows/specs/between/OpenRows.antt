-- Rows, and the next one while its numbers are appended.
use Rattle.std.specs.Prelude.{ℕ, List}

-- the rows that are complete, and the numbers so far of the next one
pub record OpenRowView : Type 0 where
  pub rows : List (List ℕ)
  pub row : List ℕ
