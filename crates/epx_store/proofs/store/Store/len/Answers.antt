use Rattle.std.proofs.Common.{◌≤◌, length, arith}
use Rattle.epx_store.proofs.UniqueKeyLemmas.{len-counted}
use Rattle.epx_store.proofs.store.Store.len.Goals as goal

pub returns : goal.returns
returns c =
    let past : length c.self.inside.shards ≤ c.loop-shard.shard-index =
    omega (arith, c.self.invariant.sixteen) in
    len-counted c.self.inside.shards c.args.self.now c.loop-shard.shard-index c.loop-shard.present
    c.self.invariant c.self.view_is past c.loop-shard.invariant.1
