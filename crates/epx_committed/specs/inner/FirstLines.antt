-- The rows of the first lines of instances, and what a ledger shows of them.
use Rattle.std.specs.Prelude.{◌≡◌, ◌≢◌, List, ◌++◌, map, All, AllPairs, Vec}
use Rattle.std.specs.declared.alloc.Global.{Global}
use Rattle.epx_types.specs.PlacedLines.{Placed}
use Rattle.epx_committed.specs.declared.ledger.FirstLines.{FirstLines}
use Rattle.epx_committed.specs.declared.rows.Row.{Row}
use Rattle.epx_committed.specs.between.Ledgers.{LedgerView}
use Rattle.epx_committed.specs.inner.LineIndexes.{IsIndexOf}
use Rattle.epx_committed.specs.LineRows.{firsts_at, NamesItsLine}

-- the rows name lines of the lists, no two have the same Id, and the index has their positions
pub record AreFirstLines (lists : List (Vec Placed Global)) (noted : FirstLines) : Type 0 where
  pub named : All (NamesItsLine lists) noted.rows.items
  pub found : IsIndexOf (map (λ r. r.id) noted.rows.items) noted.index
  pub distinct : AllPairs (λ x y. x ≢ y) (map (λ r. r.id) noted.rows.items)

-- what is seen of a ledger that has these lists and first lines
abbrev pub ledger_view : List (Vec Placed Global) → FirstLines → LedgerView
ledger_view lists noted = record {
  firsts = firsts_at lists noted.rows.items;
  disagreements = noted.disagreements.entries;
}

-- the new rows are the old ones with some appended
abbrev pub Extends : List Row → List Row → Type 0
Extends old new = (more : List Row) × (new ≡ old ++ more)
