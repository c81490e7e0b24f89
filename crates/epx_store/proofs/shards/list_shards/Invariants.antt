use Rattle.std.proofs.Common.{◌≡◌, map, take, length}
use Rattle.std.specs.FinMap as contents
use Rattle.epx_store.proofs.shards.list_shards.Given as goal

abbrev pub invariant-loop-number : goal.invariant-loop-number
invariant-loop-number l = (length l.lists ≡ 16)
    × (map (λ v. map (λ p. (p.0.now, p.1)) v.items) (take l.number l.lists)
    ≡ map contents.entries (take l.number l.shards))
