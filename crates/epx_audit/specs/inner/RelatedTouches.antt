-- Touches of one key, of which the later ones reach the earlier ones.
use Rattle.std.specs.Prelude.{◌≡◌, ◌≢◌, ◌⊎◌, ℕ, ◌<◌, ◌≤◌, false, List, slice_index, slice_index_or}
use Rattle.std.specs.Prelude.{IsTrue}
use Rattle.epx_graph.specs.NodePaths.{NodeReaches}
use Rattle.epx_audit.specs.declared.touches.KeyUse.{KeyUse}

-- the touch at an index of a list; past its end, a read of hash 0 at position 0
abbrev pub touch_at : List KeyUse → ℕ → KeyUse
touch_at touches i = slice_index_or touches i (record { hash = 0; position = 0; writes = false })

-- the command of touch i reaches that of touch j
abbrev pub TouchReaches : (ℕ → List ℕ) → List ℕ → List KeyUse → ℕ → ℕ → Type 0
TouchReaches edges nodes touches i j =
    NodeReaches edges (slice_index nodes (touch_at touches i).position)
    (slice_index nodes (touch_at touches j).position)

-- of any two touches of one hash among the first n, of which one writes, the later one reaches the
-- earlier one
abbrev pub AreAllRelated : (ℕ → List ℕ) → List ℕ → List KeyUse → ℕ → Type 0
AreAllRelated edges nodes touches n = (j i : ℕ) → j < i → i < n
    → (touch_at touches j).hash ≡ (touch_at touches i).hash → IsTrue (touch_at touches j).writes
    ⊎ IsTrue (touch_at touches i).writes → TouchReaches edges nodes touches i j

-- touch i reaches what it has to reach from the last writer on: if it writes, all of these
-- touches, otherwise the last writer, if that one does write
abbrev pub IsRelatedBack : (ℕ → List ℕ) → List ℕ → List KeyUse → ℕ → ℕ → Type 0
IsRelatedBack edges nodes touches last_writer i = (j : ℕ) → last_writer ≤ j → j < i
    → IsTrue (touch_at touches i).writes ⊎ ((j ≡ last_writer) × IsTrue (touch_at touches j).writes)
    → TouchReaches edges nodes touches i j

-- the last writer after touch i: touch i if it writes or is the first of its hash, else the same
-- one
pub record IsNextWriter (touches : List KeyUse) (last_writer i next : ℕ) : Type 0 where
  pub moves : IsTrue (touch_at touches i).writes
      ⊎ ((touch_at touches last_writer).hash ≢ (touch_at touches i).hash) → next ≡ i
  pub stays : ¬ IsTrue (touch_at touches i).writes
      → (touch_at touches last_writer).hash ≡ (touch_at touches i).hash → next ≡ last_writer
