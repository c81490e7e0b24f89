-- Neighbours on a key, by the number of the key and the positions of the commands.
use Rattle.std.specs.Prelude.{◌≡◌, ◌⊎◌, ℕ, ◌<◌, ◌≤◌, true, Bool, List, Contains, IsTrue}
use Rattle.epx_neighbours.specs.declared.key_touch.KeyTouch.{KeyTouch}
use Rattle.epx_neighbours.specs.declared.neighbours.Neighbours.{Neighbours}
use Rattle.epx_neighbours.specs.inner.KeyTouches.{key_touch_at}

-- the command at position p writes key k
abbrev pub HasWrite : List KeyTouch → ℕ → ℕ → Type 0
HasWrite touches p k = Contains touches (record { key = k; position = p; writes = true })

-- the command at position p touches key k: it reads the key or writes it
abbrev pub HasTouch : List KeyTouch → ℕ → ℕ → Type 0
HasTouch touches p k =
    (w : Bool) × Contains touches (record { key = k; position = p; writes = w })

-- one of the two commands writes the key, the other touches it, and none between them writes it
pub record AreNumbered (touches : List KeyTouch) (n : Neighbours) : Type 0 where
  pub rises : n.before < n.after
  pub conflict : (HasWrite touches n.before n.key × HasTouch touches n.after n.key)
      ⊎ (HasTouch touches n.before n.key × HasWrite touches n.after n.key)
  pub next : (p : ℕ) → n.before < p → p < n.after → ¬ HasWrite touches p n.key

-- touch j makes neighbours with touch i, where j is the last writer or comes after it: if touch i
-- writes, all of these touches, otherwise the last writer, if that one does write
pub record IsMadeBy (touches : List KeyTouch) (last_writer i : ℕ) (n : Neighbours) (j : ℕ) : Type
    0 where
  pub from : last_writer ≤ j
  pub below : j < i
  pub one : IsTrue (key_touch_at touches i).writes
      ⊎ ((j ≡ last_writer) × IsTrue (key_touch_at touches j).writes)
  pub rises : (key_touch_at touches j).position < (key_touch_at touches i).position
  pub is : n ≡ record {
    before = (key_touch_at touches j).position;
    after = (key_touch_at touches i).position;
    key = (key_touch_at touches i).key;
  }
