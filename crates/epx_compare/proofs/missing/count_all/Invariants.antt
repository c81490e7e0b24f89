use Rattle.std.proofs.Common.{List, take}
use Rattle.epx_types.proofs.Common.{Placed}
use Rattle.epx_merge.specs.LogLines.{BadLineAt}
use Rattle.epx_compare.specs.inner.Catalogs.{IsCatalogOf}
use Rattle.epx_compare.specs.inner.MissingCounts.{AreCounts, missing_count}
use Rattle.epx_compare.proofs.missing.count_all.Given as goal

abbrev pub invariant-loop-k : goal.invariant-loop-k
invariant-loop-k l = (lines : List Placed) (bad : List BadLineAt) → IsCatalogOf lines bad l.catalog
    → AreCounts (missing_count lines l.catalog.ids (take l.k l.catalog.ids)) l.counts.entries
