-- Ranges of consecutive numbers that are all in a list of Ids.
use Rattle.std.specs.Prelude.{◌≡◌, ℕ, ◌+◌, ◌-◌, ◌≤◌, ◌<◌, ◌⊎◌, List, Some, get_or, slice_get}
use Rattle.epx_types.specs.declared.id.Id.{Id}
use Rattle.epx_committed.specs.declared.number_ranges.NumberRange.{NumberRange}

-- the number is in the range, whose end is the number after its last
abbrev pub IsInRange : NumberRange → ℕ → Type 0
IsInRange range number = (range.first ≤ number) × (number < range.end)

-- the position that the range has for a number
abbrev pub position_in : NumberRange → ℕ → ℕ
position_in range number = range.position + (number - range.first)

-- each number of the new range is in the old one, at the same position, or it is the given one
abbrev pub Lengthens : NumberRange → ℕ → ℕ → NumberRange → Type 0
Lengthens old number position new = (n : ℕ) → IsInRange new n
    → (IsInRange old n × (position_in new n ≡ position_in old n))
    ⊎ ((n ≡ number) × (position_in new n ≡ position))

-- the range of an Id's replica
abbrev pub range_of : List NumberRange → Id → NumberRange
range_of ranges x = get_or ranges x.replica (record { first = 0; end = 0; position = 0 })

-- each Id whose number is in the range of its replica is in the list, at its position there
abbrev pub AreRangesIn : List Id → List NumberRange → Type 0
AreRangesIn ids ranges = (x : Id) → IsInRange (range_of ranges x) x.number
    → slice_get ids (position_in (range_of ranges x) x.number) ≡ Some x
