use Rattle.std.proofs.Common.{◌≡◌, ◌≤◌, ℤ, List, Option, length}
use Rattle.epx_lines.specs.OperationList.{value_or_null}
use Rattle.epx_lines.proofs.TokenValueLemmas.{HasReadItems}
use Rattle.epx_report.proofs.from_tokens.take_values.Given as goal

abbrev pub invariant-loop-count : goal.invariant-loop-count
invariant-loop-count l = record {
  taken : (vs : List (Option ℤ)) × HasReadItems 0 value_or_null l.initial.reader vs l.reader
      × (length vs ≡ l.count);
  few : l.count ≤ 64;
}

abbrev pub decreases-loop-count : goal.decreases-loop-count
decreases-loop-count l = length l.reader
