use Rattle.std.proofs.Common.{◌≡◌, ◌++◌}
use Rattle.epx_report.proofs.id_set.IdSet.into_vec.Given as goal

abbrev pub invariant-loop-id : goal.invariant-loop-id
invariant-loop-id l = l.ids.items ++ l.id-iterator ≡ l.initial.ids.items ++ l.initial.id-iterator
