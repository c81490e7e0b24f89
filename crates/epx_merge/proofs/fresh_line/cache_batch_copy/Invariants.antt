use Rattle.epx_merge.specs.between.RedundantLines.{CachesSomeOf}
use Rattle.epx_merge.proofs.fresh_line.cache_batch_copy.Given as goal

abbrev pub invariant-loop-piece : goal.invariant-loop-piece
invariant-loop-piece l = CachesSomeOf l.batch l.fn.cache l.cache
