use Rattle.std.proofs.Common.{◌≡◌, ◌++◌, List}
use Rattle.epx_report.specs.declared.from_value.BaseLine.{BaseLine}
use Rattle.epx_report.specs.inner.LinesByKind.{with_all}
use Rattle.epx_report.proofs.whole_base.take_part.Given as goal

abbrev pub invariant-loop-line : goal.invariant-loop-line
invariant-loop-line l = (more : List BaseLine)
    → with_all l.fn.parts (l.fn.lines.items ++ more)
    ≡ with_all l.parts (l.line-iterator.rest.items ++ more)
