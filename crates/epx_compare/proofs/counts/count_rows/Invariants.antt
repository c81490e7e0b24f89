use Rattle.std.proofs.Common.{◌≡◌, ◌==◌, ◌<◌, ℕ, length, take, count_by, slice_index}
use Rattle.epx_compare.proofs.counts.count_rows.Given as goal

abbrev pub invariant-loop-row : goal.invariant-loop-row
invariant-loop-row l = record {
  len : length l.counts.items ≡ l.logs;
  each : (log : ℕ) → log < l.logs → slice_index l.counts.items log
      ≡ count_by (λ r. r.place.log == log) (take l.row-index l.rows);
}
