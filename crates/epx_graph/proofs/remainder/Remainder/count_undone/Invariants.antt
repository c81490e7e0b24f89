use Rattle.std.proofs.Common.{◌≡◌, ◌≤◌, length, take}
use Rattle.epx_types.proofs.Common.{remaining_ids}
use Rattle.epx_graph.proofs.remainder.Remainder.count_undone.Given as goal

abbrev pub invariant-loop-id : goal.invariant-loop-id
invariant-loop-id l = record {
  count : l.count ≡ length (remaining_ids l.self.done (take l.id-index l.ids));
  within : l.count ≤ l.id-index;
}
