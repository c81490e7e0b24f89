use Rattle.epx_merge.proofs.DropsCachedLemmas.{CachesSomeOf-trans}
use Rattle.epx_merge.proofs.fresh_line.cache_batch_copy.Goals as goal

pub loop-piece-preserved : goal.loop-piece-preserved
loop-piece-preserved c = CachesSomeOf-trans c.args.batch.now c.args.cache.now c.loop-piece.cache
    c.cache_piece_copy.new.cache c.loop-piece.invariant c.cache_piece_copy.ensures
