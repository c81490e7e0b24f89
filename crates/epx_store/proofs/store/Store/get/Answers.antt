use Rattle.std.proofs.Common.{◌∙◌}
use Rattle.epx_store.proofs.ShardLookupLemmas.{get-opened}
use Rattle.epx_store.proofs.store.Store.get.Goals as goal

pub returns : goal.returns
returns c = c.get.ensures ∙ get-opened c.self.inside.shards c.args.self.now c.args.key.now
    c.shard_of.result _ c.self.invariant c.self.view_is c.shard_of.ensures
