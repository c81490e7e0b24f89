use Rattle.std.proofs.Common.{◌≡◌, length, map, take}
use Rattle.epx_linear.specs.inner.HistoryReadings.{called_ids}
use Rattle.epx_linear.proofs.CallRowLemmas.{AreNumbered}
use Rattle.epx_linear.proofs.call_table.rows_of.Given as goal

abbrev pub invariant-loop-at : goal.invariant-loop-at
invariant-loop-at l = record {
  ids : map (λ r. r.id) l.rows.items ≡ called_ids (take l.at l.calls);
  places : AreNumbered (λ r. r.at) l.rows.items;
  len : length l.rows.items ≡ l.at;
}
