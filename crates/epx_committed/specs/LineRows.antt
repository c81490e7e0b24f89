-- Lists of lines, and the rows that name lines in them.
use Rattle.std.specs.Prelude.{◌≡◌, ℕ, ◌<◌, Bool, nat_lt, Option, Some, List, map, filter, All}
use Rattle.std.specs.Prelude.{filter_map, option_map, option_and_then, slice_get, Vec}
use Rattle.std.specs.declared.alloc.Global.{Global}
use Rattle.epx_types.specs.declared.id.Id.{Id}
use Rattle.epx_types.specs.Ids.{IsRising}
use Rattle.epx_types.specs.Instances.{Instance}
use Rattle.epx_types.specs.PlacedLines.{Placed}
use Rattle.epx_committed.specs.declared.rows.Row.{Row}
use Rattle.epx_committed.specs.declared.rows.TheConstants.{NO_LIST}

-- the row of the line p, which is at this index of the list with this number: its Id, its sequence
-- number, and both indices
abbrev pub row_at : ℕ → ℕ → Placed → Row
row_at list index p = record { id = p.instance.id; seq = p.instance.seq; list = list; at = index }

-- the line that a row names, if its indices are in the lists
abbrev pub line_at : List (Vec Placed Global) → Row → Option Placed
line_at lists r = option_and_then (λ l. slice_get l.items r.at) (slice_get lists r.list)

-- the instances of the lines that the rows name, in the order of the rows
abbrev pub instances_at : List (Vec Placed Global) → List Row → List Instance
instances_at lists rows = filter_map (λ r. option_map (λ p. p.instance) (line_at lists r)) rows

-- the lines that the rows name, each with the row's Id, in the order of the rows
abbrev pub firsts_at : List (Vec Placed Global) → List Row → List (Id × Placed)
firsts_at lists rows = filter_map (λ r. option_map (λ p. (r.id, p)) (line_at lists r)) rows

-- the row names the line, and has its Id and sequence number
abbrev pub IsLineRow : List (Vec Placed Global) → Placed → Row → Type 0
IsLineRow lists p r = (line_at lists r ≡ Some p) × (p.instance.id ≡ r.id) × (p.instance.seq ≡ r.seq)

-- the row's indices are in the lists, and the line there has the row's Id and sequence number
abbrev pub NamesItsLine : List (Vec Placed Global) → Row → Type 0
NamesItsLine lists r = (p : Placed) × IsLineRow lists p r

-- each row names a line of the lists, and the rows come by rising Id
pub record AreLineRows (lists : List (Vec Placed Global)) (rows : List Row) : Type 0 where
  pub named : All (NamesItsLine lists) rows
  pub rising : IsRising (map (λ r. r.id) rows)

-- ---- slots, which have a row or not

-- the slot has a row: the index of its list is below `NO_LIST`, the index that an empty slot has
abbrev pub HasList : Row → Type 0
HasList r = r.list < NO_LIST

-- whether a slot has a row
abbrev pub has_row : Row → Bool
has_row slot = nat_lt slot.list NO_LIST

-- the rows of the slots that have one
abbrev pub slot_rows : List Row → List Row
slot_rows slots = filter has_row slots
