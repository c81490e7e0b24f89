use Rattle.std.proofs.Common.{◌≤◌, length}
use Rattle.epx_lines.specs.OperationList.{op_of}
use Rattle.epx_lines.proofs.TokenValueLemmas.{HasReadItems}
use Rattle.epx_lines.proofs.from_tokens.take_ops.Given as goal

abbrev pub invariant-loop-ops : goal.invariant-loop-ops
invariant-loop-ops l = record {
  taken : HasReadItems 1 op_of l.initial.reader l.ops.items l.reader;
  few : length l.ops.items ≤ 64;
}

abbrev pub decreases-loop-ops : goal.decreases-loop-ops
decreases-loop-ops l = length l.reader
