use Rattle.epx_store.proofs.ShardWriteLemmas.{AreShards-set, all_contents-set}
use Rattle.epx_store.proofs.ShardWriteLemmas.{all_contents-set_same}
use Rattle.epx_store.proofs.store.Store.write.Goals as goal

pub invariant_of-self : goal.invariant_of-self
invariant_of-self c = AreShards-set c.self.inside.shards c.args.self.now c.args.key.now
    c.args.value c.shard_of.result _ c.assign.new.self c.self.invariant c.shard_of.ensures
    c.assign.result c.assign.ensures.ok c.assign.ensures.err

pub returns-clause-ok : goal.returns-clause-ok
returns-clause-ok c = all_contents-set c.self.inside.shards c.args.self.now c.args.key.now
    c.args.value c.shard_of.result _ c.assign.new.self c.self.invariant c.shard_of.ensures
    c.self.view_is c.assign.result c.assign.ensures.ok

pub returns-clause-err : goal.returns-clause-err
returns-clause-err c = all_contents-set_same c.self.inside.shards c.args.self.now c.args.key.now
    c.args.value c.shard_of.result _ c.assign.new.self c.self.invariant c.shard_of.ensures
    c.self.view_is c.assign.result c.assign.ensures.err
