use Rattle.std.proofs.Common.{◌≡◌, ◌++◌, List}
use Rattle.epx_types.proofs.Common.{Placed}
use Rattle.epx_merge.specs.LogLines.{BadLineAt}
use Rattle.epx_compare.specs.Comparisons.{counts_text}
use Rattle.epx_versions.specs.between.NotedRows.{AreNoted}
use Rattle.epx_compare.proofs.counts.append_counts.Given as goal

abbrev pub invariant-loop-log : goal.invariant-loop-log
invariant-loop-log l = (lines : List Placed) (bad : List BadLineAt) → AreNoted lines bad l.noted
    → l.text.items ≡ l.fn.text.items ++ counts_text l.log lines bad
