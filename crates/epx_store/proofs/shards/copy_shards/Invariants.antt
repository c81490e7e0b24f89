use Rattle.std.proofs.Common.{◌≡◌, ◌<◌, ℕ, length, get_or}
use Rattle.epx_types.proofs.Common.{Contents}
use Rattle.epx_store.proofs.shards.copy_shards.Given as goal

abbrev pub invariant-loop-number : goal.invariant-loop-number
invariant-loop-number l = (length l.copy ≡ 16)
    × ((k : ℕ) (d : Contents) → k < l.number → get_or l.copy k d ≡ get_or l.shards k d)
