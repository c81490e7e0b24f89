-- Items with places, sorted by place.
use Rattle.std.specs.Prelude.{List, [], ◌∷◌, Contains}
use Rattle.epx_types.specs.declared.place.Place.{Place}
use Rattle.epx_types.specs.PlacedLines.{Placed, Earlier}

-- the place of each item, which `at` returns, is earlier than those of all later items
abbrev pub AreSortedBy : {X : Type 0} → (X → Place) → List X → Type 0
AreSortedBy at [] = Unit {0}
AreSortedBy {X} at (x ∷ xs) = ((y : X) → Contains xs y → Earlier (at x) (at y)) × AreSortedBy at xs

-- the lines come by rising place, each place once
abbrev pub IsSortedByPlace : List Placed → Type 0
IsSortedByPlace lines = AreSortedBy (λ p. p.place) lines
