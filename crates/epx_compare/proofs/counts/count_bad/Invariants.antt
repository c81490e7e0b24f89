use Rattle.std.proofs.Common.{◌≡◌, ◌==◌, ◌<◌, ℕ, length, take, count_by, slice_index}
use Rattle.epx_compare.proofs.counts.count_bad.Given as goal

abbrev pub invariant-loop-line : goal.invariant-loop-line
invariant-loop-line l = record {
  len : length l.counts.items ≡ l.logs;
  each : (log : ℕ) → log < l.logs → slice_index l.counts.items log
      ≡ count_by (λ r. r.place.log == log) (take l.line-index l.bad);
}
