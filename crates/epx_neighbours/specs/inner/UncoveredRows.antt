-- Neighbours that are not related, with the numbers of their keys.
use Rattle.std.specs.Prelude.{◌≡◌, ◌↔◌, ℕ, ◌<◌, true, false, Bool, List, [], length, slice_get}
use Rattle.std.specs.Prelude.{slice_index_or, Some, Contains, All, AllPairs}
use Rattle.std.specs.Ordering.{nat_cmp, ordering_then, is_lt}
use Rattle.std.specs.declared.cmp.Ordering.{Ordering}
use Rattle.epx_types.specs.declared.id.Id.{Id}
use Rattle.epx_types.specs.Ids.{id_cmp}
use Rattle.epx_neighbours.specs.UncoveredNeighbours.{NeighbourPair}
use Rattle.epx_neighbours.specs.declared.neighbours.Neighbours.{Neighbours}
use Rattle.epx_neighbours.specs.declared.uncovered_row.UncoveredRow.{UncoveredRow}

-- by the first Id, the second Id and the number of the key
abbrev pub row_cmp : UncoveredRow → UncoveredRow → Ordering
row_cmp a b = ordering_then (id_cmp a.before b.before)
    (ordering_then (id_cmp a.after b.after) (nat_cmp a.key b.key))

-- row a comes before row b, by the first Id, the second Id and the number of the key
abbrev pub RowBelow : UncoveredRow → UncoveredRow → Type 0
RowBelow a b = is_lt (row_cmp a b) ≡ true

-- the row of two neighbours
pub record IsUncoveredRowOf (ids : List Id) (n : Neighbours) (r : UncoveredRow) : Type 0 where
  pub before : slice_get ids n.before ≡ Some r.before
  pub after : slice_get ids n.after ≡ Some r.after
  pub key : n.key ≡ r.key

-- the positions of neighbours are in a list of this length
abbrev pub HavePositionsWithin : ℕ → List Neighbours → Type 0
HavePositionsWithin length found = All (λ n. (n.before < length) × (n.after < length)) found

-- r is the row of neighbours without a mark, among the first i
abbrev pub IsUnmarked : List Id → List Neighbours → List Bool → ℕ → UncoveredRow → Type 0
IsUnmarked ids found marks i r = (j : ℕ) × (n : Neighbours) × (j < i)
    × (slice_get found j ≡ Some n) × (slice_index_or marks j false ≡ false)
    × IsUncoveredRowOf ids n r

-- the rows of the neighbours without a mark, each once, rising
pub record AreRows (ids : List Id) (found : List Neighbours) (marks : List Bool)
    (rows : List UncoveredRow) : Type 0 where
  pub exact : (r : UncoveredRow) → Contains rows r ↔ IsUnmarked ids found marks (length found) r
  pub rising : AllPairs RowBelow rows

-- a row with its key
abbrev pub pair_of : List (List ℕ) → UncoveredRow → NeighbourPair
pair_of keys r =
    record { before = r.before; after = r.after; key = slice_index_or keys r.key [] }
