use Rattle.std.proofs.Common.{◌≡◌, rules}
use Rattle.epx_executor.proofs.PendingMapLemmas.{Contains-ids_left}
use Rattle.epx_executor.proofs.batch.waiting_pending.Goals as goal

pub graph_remaining-requires-after_bounds : goal.graph_remaining-requires-after_bounds
graph_remaining-requires-after_bounds g c κs within =
    let same : c.in_ok-merged.merged ≡ c.args.pending.now = search rules in
    Contains-ids_left c.args.done.now c.args.pending.now c.in_ok-merged.merged same c.requires.left
