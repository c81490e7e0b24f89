-- Lines of logs that commit an instance, each with its place.
use Rattle.std.specs.Prelude.{◌≡◌, true, List, Contains}
use Rattle.std.specs.Ordering.{nat_cmp, ordering_then, is_lt}
use Rattle.std.specs.declared.cmp.Ordering.{Ordering}
use Rattle.epx_types.specs.declared.place.Place.{Place}
use Rattle.epx_types.specs.Instances.{Instance}

-- the order of places: by log, then by line
abbrev pub place_cmp : Place → Place → Ordering
place_cmp p q = ordering_then (nat_cmp p.log q.log) (nat_cmp p.line q.line)

-- the place p is in an earlier log than q, or in the same log on an earlier line
abbrev pub Earlier : Place → Place → Type 0
Earlier p q = is_lt (place_cmp p q) ≡ true

-- a line that commits an instance, at its place
pub record Placed : Type 0 where
  pub place : Place
  pub instance : Instance

-- any two of the lines that have the same place are the same line
abbrev pub HaveDistinctPlaces : List Placed → Type 0
HaveDistinctPlaces lines = (p q : Placed) → Contains lines p → Contains lines q → p.place ≡ q.place
    → p ≡ q
