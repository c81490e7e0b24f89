use Rattle.std.proofs.Common.{◌≡◌, ◌++◌, List, take}
use Rattle.epx_types.proofs.Common.{flat_map, Placed}
use Rattle.epx_merge.specs.LogLines.{BadLineAt}
use Rattle.epx_compare.specs.Comparisons.{difference_text}
use Rattle.epx_compare.specs.inner.Catalogs.{IsCatalogOf}
use Rattle.epx_compare.proofs.differences.append_differences.Given as goal

abbrev pub invariant-loop-position : goal.invariant-loop-position
invariant-loop-position l = (lines : List Placed) (bad : List BadLineAt)
    → IsCatalogOf lines bad l.catalog
    → l.text.items ≡ l.initial.text.items
    ++ flat_map (difference_text lines) (take l.position l.catalog.ids)
