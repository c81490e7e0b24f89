use Rattle.epx_merge.specs.between.RedundantLines.{CachesSomeOf}
use Rattle.epx_merge.proofs.fresh_line.cache_piece_copy.Given as goal

abbrev pub invariant-loop-line : goal.invariant-loop-line
invariant-loop-line l = CachesSomeOf l.batch l.fn.cache l.cache
