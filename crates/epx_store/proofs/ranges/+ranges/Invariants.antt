use Rattle.std.proofs.Common.{◌+◌, ◌*◌}
use Rattle.epx_store.proofs.ranges.+ranges.Given as goal

abbrev pub decreases-merge_by_ranges : goal.decreases-merge_by_ranges
decreases-merge_by_ranges g l = 2 * l.threads

abbrev pub decreases-lower : goal.decreases-lower
decreases-lower g l = 2 * l.half + 1

abbrev pub decreases-upper : goal.decreases-upper
decreases-upper g l = 2 * l.rest + 1
