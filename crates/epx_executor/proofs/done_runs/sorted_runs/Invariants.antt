use Rattle.std.proofs.Common.{◌↔◌, take, Contains}
use Rattle.epx_types.specs.declared.id.Id.{Id}
use Rattle.epx_executor.specs.Runs.{AreFilled, IsInRuns}
use Rattle.epx_executor.proofs.done_runs.sorted_runs.Given as goal

abbrev pub invariant-loop-id : goal.invariant-loop-id
invariant-loop-id l = AreFilled l.all.items
    × ((x : Id) → IsInRuns l.all.items x ↔ Contains (take l.id-index l.ids) x)
