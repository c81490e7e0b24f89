use Rattle.epx_executor.proofs.CallLineLemmas.{Contains-merged_left}
use Rattle.epx_executor.proofs.batch.read_batch.Goals as goal

pub batch_of-requires-after_bounds : goal.batch_of-requires-after_bounds
batch_of-requires-after_bounds g c κs within =
    let part = c.requires.0 in
    Contains-merged_left c.args.done.now part c.args.came.items c.in_ok-merged.merged
    (c.in_ok-merged.ensures part c.requires.1) c.requires.2
