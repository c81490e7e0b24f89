use Rattle.std.proofs.Common.{rules}
use Rattle.epx_store.proofs.ShardLookupLemmas.{AreShards-empty, all_contents-empty}
use Rattle.epx_store.proofs.store.Store.new.Goals as goal

pub invariant_of-result : goal.invariant_of-result
invariant_of-result c = AreShards-empty c.empty_shards.result c.empty_shards.ensures (search rules)

pub returns : goal.returns
returns c = all_contents-empty c.empty_shards.result c.empty_shards.ensures
