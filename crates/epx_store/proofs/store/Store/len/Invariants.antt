use Rattle.std.proofs.Common.{◌≡◌, ◌+◌, ◌*◌, ◌^◌, ◌≤◌, drop, sum_by}
use Rattle.std.specs.FinMap as contents
use Rattle.epx_store.proofs.store.Store.len.Given as goal

abbrev pub invariant-loop-shard : goal.invariant-loop-shard
invariant-loop-shard l = (l.present ≤ l.shard-index * 2 ^ 64)
    × (l.present + sum_by contents.len (drop l.shard-index l.shard-items)
    ≡ sum_by contents.len l.shard-items)
