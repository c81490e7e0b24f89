use Rattle.std.proofs.Common.{◌≡◌, ℕ, ◌<◌, length, take}
use Rattle.epx_types.proofs.Common.{list_any, max_logs}
use Rattle.epx_compare.specs.inner.LogMarks.{is_line_in, is_log_marked}
use Rattle.epx_compare.proofs.gaps.mark_lines.Given as goal

abbrev pub invariant-loop-row : goal.invariant-loop-row
invariant-loop-row l = record {
  len : length l.marks.items ≡ l.instances;
  each : (k log : ℕ) → log < max_logs → is_log_marked log l.marks.items k
      ≡ list_any (is_line_in l.positions log k) (take l.row-index l.rows);
}
