use Rattle.std.proofs.Common.{◌≢◌, ◌<◌, ◌≤◌, length, slice_index}
use Rattle.epx_merge.proofs.split_lines.lines_end.Given as goal

-- no line feed is from here on
abbrev pub invariant-loop-end : goal.invariant-loop-end
invariant-loop-end l = record {
  within : l.end ≤ length l.bytes;
  last : (i : _) → l.end ≤ i → i < length l.bytes → slice_index l.bytes i ≢ 10;
}

abbrev pub decreases-loop-end : goal.decreases-loop-end
decreases-loop-end l = l.end
