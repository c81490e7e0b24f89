use Rattle.std.proofs.Common.{◌≡◌, ◌++◌, List}
use Rattle.epx_types.proofs.Common.{Placed}
use Rattle.epx_merge.specs.LogLines.{BadLineAt}
use Rattle.epx_compare.specs.Comparisons.{gaps_text}
use Rattle.epx_compare.specs.inner.Catalogs.{IsCatalogOf}
use Rattle.epx_compare.proofs.gap_lines.append_gaps.Given as goal

abbrev pub invariant-loop-log : goal.invariant-loop-log
invariant-loop-log l = (lines : List Placed) (bad : List BadLineAt)
    → IsCatalogOf lines bad l.catalog
    → l.text.items ≡ l.fn.text.items ++ gaps_text l.log lines l.catalog.ids
