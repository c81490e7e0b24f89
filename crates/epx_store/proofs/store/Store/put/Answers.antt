use Rattle.std.proofs.Common.{Some, rules}
use Rattle.epx_store.proofs.ShardWriteLemmas.{AreShards-set, all_contents-set}
use Rattle.epx_store.proofs.ShardWriteLemmas.{all_contents-set_same}
use Rattle.epx_store.proofs.store.Store.put.Goals as goal

pub invariant_of-self : goal.invariant_of-self
invariant_of-self c = AreShards-set c.self.inside.shards c.args.self.now c.args.key
    (Some c.args.value) c.shard_of.result _ c.insert.new.self c.self.invariant c.shard_of.ensures
    c.insert.result (search rules) c.insert.ensures.err

pub returns-clause-ok : goal.returns-clause-ok
returns-clause-ok c = all_contents-set c.self.inside.shards c.args.self.now c.args.key
    (Some c.args.value) c.shard_of.result c.index-self-shard_of.result c.insert.new.self
    c.self.invariant c.shard_of.ensures c.self.view_is c.insert.result (search rules)

pub returns-clause-err : goal.returns-clause-err
returns-clause-err c = all_contents-set_same c.self.inside.shards c.args.self.now c.args.key
    (Some c.args.value) c.shard_of.result _ c.insert.new.self c.self.invariant c.shard_of.ensures
    c.self.view_is c.insert.result c.insert.ensures.err
