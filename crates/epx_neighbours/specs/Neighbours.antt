-- Neighbours of a list of commands on a key.
use Rattle.std.specs.Prelude.{◌⊎◌, ℕ, ◌<◌, List, [], Contains, slice_index_or}
use Rattle.epx_types.specs.declared.op.Op.{Op}
use Rattle.epx_types.specs.CommandKeys.{touched_keys, written_keys}

-- the command at a position touches the key; past the end of the list there is no command
abbrev pub TouchesAt : List (List Op) → ℕ → List ℕ → Type 0
TouchesAt commands p k = Contains (touched_keys (slice_index_or commands p [])) k

-- the command at a position writes the key; past the end of the list there is no command
abbrev pub WritesAt : List (List Op) → ℕ → List ℕ → Type 0
WritesAt commands p k = Contains (written_keys (slice_index_or commands p [])) k

-- position p is before q, one of the two commands writes the key, the other touches it, and no
-- command between them writes it
pub record AreNeighbours (commands : List (List Op)) (p q : ℕ) (k : List ℕ) : Type 0 where
  pub rises : p < q
  pub conflict : (WritesAt commands p k × TouchesAt commands q k)
      ⊎ (TouchesAt commands p k × WritesAt commands q k)
  pub next : (r : ℕ) → p < r → r < q → ¬ WritesAt commands r k
