use Rattle.std.proofs.Common.{◌≡◌, ◌++◌, map, drop}
use Rattle.epx_report.specs.inner.LineTokens.{value_token}
use Rattle.epx_report.proofs.report_lines.write_values.Given as goal

abbrev pub invariant-loop-value : goal.invariant-loop-value
invariant-loop-value l = record {
  written : l.out.tokens ++ map value_token (drop l.value-index l.values)
      ≡ l.fn.out.tokens ++ map value_token l.values;
  before : l.out.before ≡ l.fn.out.before;
}
