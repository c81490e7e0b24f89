-- Which keys the commands of a list touch, by the numbers of the keys.
use Rattle.std.specs.Prelude.{◌≡◌, ◌↔◌, true, false, ℕ, Bool, List, [], map, flat_map, Contains}
use Rattle.std.specs.Prelude.{AllPairs, slice_index_or}
use Rattle.std.specs.Ordering.{nat_cmp, bool_cmp, ordering_then, is_lt}
use Rattle.std.specs.declared.cmp.Ordering.{Ordering}
use Rattle.epx_types.specs.declared.op.Op.{Op}
use Rattle.epx_types.specs.CommandKeys.{accesses_of}
use Rattle.epx_neighbours.specs.declared.key_touch.KeyTouch.{KeyTouch}
use Rattle.epx_neighbours.specs.inner.KeyNumbers.{number_of}

-- an access by the command at a position
abbrev pub key_touch_of : List (List ℕ) → ℕ → List ℕ × Bool → KeyTouch
key_touch_of keys p access =
    record { key = number_of keys access.0; position = p; writes = access.1 }

-- what one operation of the command at a position touches: one key, or two if it copies
abbrev pub key_touches_by : List (List ℕ) → ℕ → Op → List KeyTouch
key_touches_by keys p op = map (key_touch_of keys p) (accesses_of op)

-- what the command at a position touches, operation by operation; a key may be there several times
abbrev pub touches_in : List (List ℕ) → ℕ → List Op → List KeyTouch
touches_in keys p ops = flat_map (key_touches_by keys p) ops

-- by key, by position, and reads before writes
abbrev pub touch_cmp : KeyTouch → KeyTouch → Ordering
touch_cmp s t = ordering_then (nat_cmp s.key t.key)
    (ordering_then (nat_cmp s.position t.position) (bool_cmp s.writes t.writes))

-- touch s comes before touch t, by key and position, and a read before a write
abbrev pub TouchBelow : KeyTouch → KeyTouch → Type 0
TouchBelow s t = is_lt (touch_cmp s t) ≡ true

-- all touches of the commands, each once, rising
pub record AreTouches (keys : List (List ℕ)) (commands : List (List Op))
    (touches : List KeyTouch) : Type 0 where
  pub exact : (t : KeyTouch) → Contains touches t
      ↔ Contains (touches_in keys t.position (slice_index_or commands t.position [])) t
  pub rising : AllPairs TouchBelow touches

-- the touch at an index of a list; past its end, a read of key 0 at position 0
abbrev pub key_touch_at : List KeyTouch → ℕ → KeyTouch
key_touch_at touches i = slice_index_or touches i (record { key = 0; position = 0; writes = false })
