use Rattle.std.proofs.Common.{◌≡◌, ◌≤◌, ◌+◌, ◌-◌, ◌++◌, suc, List, [], length, map, drop}
use Rattle.epx_types.proofs.Common.{All, max_log_bytes}
use Rattle.epx_lines.specs.Lines.{lines_of}
use Rattle.epx_merge.specs.LogLines.{MeaningAt, meanings_in}
use Rattle.epx_merge.specs.between.RedundantLines.{DropsCached, IsNextBatch}
use Rattle.epx_merge.proofs.LineBatchLemmas.{IsWithin, line_at}
use Rattle.epx_merge.proofs.line_batch.LineBatch.add_part.Given as goal

abbrev pub invariant-loop-done : goal.invariant-loop-done
invariant-loop-done l =
    let bytes = l.self-inside.bytes.items in
    let spans = l.self-inside.spans.items in
    let rest = lines_of (drop l.done l.bytes) in
    record {
      copied : drop l.base bytes ≡ l.bytes;
      size : length bytes ≡ l.base + length l.bytes;
      within : All (IsWithin bytes) spans;
      few : length spans + (length l.bytes - l.done) ≤ length l.fn.self + length l.bytes;
      lines : l.before + length l.bytes ≤ max_log_bytes
          → ((cut : List MeaningAt) → DropsCached [] cut l.fn.self
          → IsNextBatch (cut ++ meanings_in l.log (suc l.before) (lines_of l.bytes))
          (meanings_in l.log (suc l.line) rest)
          (map (line_at bytes) spans))
          × (l.line + length rest ≡ l.before + length (lines_of l.bytes))
          × (l.line + (length l.bytes - l.done) ≤ l.before + length l.bytes);
    }

abbrev pub decreases-loop-done : goal.decreases-loop-done
decreases-loop-done l = length l.bytes - l.done
