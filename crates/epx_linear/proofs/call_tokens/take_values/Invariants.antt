use Rattle.std.proofs.Common.{◌≤◌, length}
use Rattle.epx_lines.specs.OperationList.{value_or_null}
use Rattle.epx_lines.proofs.TokenValueLemmas.{HasReadItems}
use Rattle.epx_linear.proofs.call_tokens.take_values.Given as goal

abbrev pub invariant-loop-values : goal.invariant-loop-values
invariant-loop-values l = record {
  taken : HasReadItems 0 value_or_null l.initial.reader l.values.items l.reader;
  few : length l.values.items ≤ 64;
}

abbrev pub decreases-loop-values : goal.decreases-loop-values
decreases-loop-values l = length l.reader
