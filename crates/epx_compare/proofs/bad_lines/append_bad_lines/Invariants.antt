use Rattle.std.proofs.Common.{◌≡◌, ◌++◌, map, take}
use Rattle.epx_compare.specs.Comparisons.{bad_text}
use Rattle.epx_versions.specs.between.NotedRows.{bad_line_at}
use Rattle.epx_compare.proofs.bad_lines.append_bad_lines.Given as goal

abbrev pub invariant-loop-line : goal.invariant-loop-line
invariant-loop-line l = l.text.items
    ≡ l.fn.text.items ++ bad_text (map bad_line_at (take l.line-index l.bad))
