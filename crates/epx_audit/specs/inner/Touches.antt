-- Which keys commands touch. Keys are distinguished by their hashes alone.
use Rattle.std.specs.Prelude.{◌≡◌, ℕ, ◌<◌, Bool, List, map, fold, flat_map}
use Rattle.std.specs.Prelude.{slice_get, slice_index, Some, Contains}
use Rattle.std.specs.declared.hash.DefaultHasher.{DefaultHasher}
use Rattle.std.specs.Hash as fed
use Rattle.std.specs.Hash.DefaultHasher as sip
use Rattle.epx_types.specs.declared.op.Op.{Op}
use Rattle.epx_types.specs.CommandKeys.{accesses_of}
use Rattle.epx_types.specs.Instances.{Instance}
use Rattle.epx_audit.specs.declared.touches.KeyUse.{KeyUse}

-- the hash of a key, by a hasher whose state is the start
abbrev pub hash_of : DefaultHasher → List ℕ → ℕ
hash_of start key = sip.finish (fold sip.write start (fed.str key))

-- the command at a position touches a key
abbrev pub touch : DefaultHasher → ℕ → List ℕ → Bool → KeyUse
touch start position key writes =
    record { hash = hash_of start key; position = position; writes = writes }

-- what one operation of the command at a position touches: one key, or two if it copies
abbrev pub touches_by : DefaultHasher → ℕ → Op → List KeyUse
touches_by start position op = map (λ a. touch start position a.0 a.1) (accesses_of op)

-- what the command at a position touches, operation by operation; a key may be there several times
abbrev pub hashed_touches : DefaultHasher → ℕ → List Op → List KeyUse
hashed_touches start position ops = flat_map (touches_by start position) ops

-- the touches of the commands at the first n positions, each of which has a node
abbrev pub HoldTouches : DefaultHasher → List Instance → List ℕ → ℕ → List KeyUse → Type 0
HoldTouches start m nodes n touches = (p : ℕ) (e : Instance) (t : KeyUse) → p < n
    → slice_get m (slice_index nodes p) ≡ Some e → Contains (hashed_touches start p e.ops) t
    → Contains touches t

-- each touch is at one of the first n positions
abbrev pub ArePlaced : ℕ → List KeyUse → Type 0
ArePlaced n touches = (t : KeyUse) → Contains touches t → t.position < n
