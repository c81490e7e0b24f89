use Rattle.std.proofs.Common.{◌≡◌}
use Rattle.std.specs.FinMap as contents
use Rattle.epx_report.specs.between.PutPairs.{put_pairs}
use Rattle.epx_report.proofs.progress.store_of.Given as goal

abbrev pub invariant-loop-key : goal.invariant-loop-key
invariant-loop-key l = put_pairs l.key-iterator.rest.items l.store
    ≡ put_pairs l.fn.pairs.items contents.empty
