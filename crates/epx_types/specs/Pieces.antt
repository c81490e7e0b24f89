-- Plans, and the pieces into which a plan cuts items. Each piece has `cut` items; the last one may
-- have fewer.
use Rattle.std.specs.Prelude.{ℕ, ◌≤◌, ◌+◌, ◌*◌, min}
use Rattle.std.specs.Int.{div_ceil}

-- the number of workers, and the number of items in a piece of work
pub record PlanNumbers : Type 0 where
  pub workers : ℕ
  pub cut : ℕ

-- a plan has 1 to 64 workers, and 1 to 65,536 items in a piece
pub record IsWithinLimits (plan : PlanNumbers) : Type 0 where
  pub some_worker : 1 ≤ plan.workers
  pub few_workers : plan.workers ≤ 64
  pub some_item : 1 ≤ plan.cut
  pub few_items : plan.cut ≤ 65536

-- the number of pieces: the items divided by `cut`, rounded up
abbrev pub piece_count : ℕ → ℕ → ℕ
piece_count cut items = div_ceil items cut

-- the first item of the piece; pieces and items count from 0
abbrev pub piece_start : ℕ → ℕ → ℕ
piece_start cut piece = piece * cut

-- the item after the last one of the piece, at most the number of items
abbrev pub piece_end : ℕ → ℕ → ℕ → ℕ
piece_end cut items piece = min ((piece + 1) * cut) items
