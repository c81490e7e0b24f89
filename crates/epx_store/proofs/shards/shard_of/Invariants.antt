use Rattle.std.proofs.Common.{◌≡◌, ◌*◌, ◌≤◌, sum, take}
use Rattle.epx_store.proofs.shards.shard_of.Given as goal

abbrev pub invariant-loop-byte : goal.invariant-loop-byte
invariant-loop-byte l = (l.sum ≤ 255 * l.byte-index)
    × (l.sum ≡ sum (take l.byte-index l.byte-items))
