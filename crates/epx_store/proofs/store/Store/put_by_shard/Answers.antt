use Rattle.epx_store.proofs.RouteLemmas.{AreShards-put_each, all_contents-put_each}
use Rattle.epx_store.proofs.store.Store.put_by_shard.Goals as goal

pub invariant_of-result : goal.invariant_of-result
invariant_of-result g c = AreShards-put_each _ _ c.self.inside.shards c.put_routes.new.shards
    c.self.invariant c.in_ok-routes.ensures c.in_ok-put_routes.ensures

pub returns : goal.returns
returns g c = all_contents-put_each _ _ c.self.inside.shards c.put_routes.new.shards
    c.self.invariant c.in_ok-routes.ensures c.in_ok-put_routes.ensures c.args.self c.self.view_is
