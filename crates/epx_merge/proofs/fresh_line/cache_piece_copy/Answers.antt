use Rattle.epx_merge.proofs.DropsCachedLemmas.{CachesSomeOf-trans}
use Rattle.epx_merge.proofs.fresh_line.cache_piece_copy.Goals as goal

pub loop-line-preserved : goal.loop-line-preserved
loop-line-preserved c = CachesSomeOf-trans c.args.batch.now c.args.cache.now c.loop-line.cache
    c.cache_copy.new.cache c.loop-line.invariant c.cache_copy.ensures
