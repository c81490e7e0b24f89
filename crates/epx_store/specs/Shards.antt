-- The shards of a store, as one finite map.
use Rattle.std.specs.Prelude.{◌≡◌, ◌≢◌, ℕ, ◌%◌, ◌==◌, sum, List, length, flat_map, filter, get_or}
use Rattle.std.specs.Prelude.{None}
use Rattle.std.specs.FinMap as contents
use Rattle.epx_types.specs.Contents.{Contents}
use Rattle.epx_types.specs.Writes.{Write}

-- the number of a key's shard: the sum of the key's bytes, modulo 16
abbrev pub shard_of : List ℕ → ℕ
shard_of key = sum key % 16

-- there are sixteen shards, and each key is only in its own shard
pub record AreShards (shards : List Contents) : Type 0 where
  pub sixteen : length shards ≡ 16
  pub own : (n : ℕ) (k : List ℕ) → shard_of k ≢ n
      → contents.get (get_or shards n contents.empty) k ≡ None

-- the contents of all shards together
abbrev pub all_contents : List Contents → Contents
all_contents shards = contents.from_entries (flat_map contents.entries shards)

-- the writes to keys of one shard, in order
abbrev pub writes_to : ℕ → List Write → List Write
writes_to n ws = filter (λ w. shard_of w.0 == n) ws
