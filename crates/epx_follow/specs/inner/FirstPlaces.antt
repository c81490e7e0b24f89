-- The place of the first line of each instance that is held.
use Rattle.std.specs.Prelude.{◌≡◌, ◌≢◌, List, Contains, Option, Some, None, MatchOption}
use Rattle.std.specs.Prelude.{option_map}
use Rattle.std.specs.BTreeMap.{BTreeMap, get}
use Rattle.epx_types.specs.declared.id.Id.{Id}
use Rattle.epx_types.specs.declared.place.Place.{Place}
use Rattle.epx_types.specs.Ids.{id_cmp}
use Rattle.epx_types.specs.PlacedLines.{Placed}
use Rattle.epx_follow.specs.BatchEnds.{first_line}

-- the place that is noted for an instance
abbrev pub place_in : BTreeMap Id Place → Id → Option Place
place_in places x = get id_cmp places x

-- the place of the first line that names the Id, if one does
abbrev pub first_place : List Placed → Id → Option Place
first_place lines x = option_map (λ p. p.place) (first_line lines x)

-- the place of the first line is noted for each Id that the lines name, and none for other Ids
abbrev pub HasFirstPlaces : (Id → Option Place) → List Placed → Type 0
HasFirstPlaces noted lines = (x : Id) → noted x ≡ first_place lines x

-- the first places without those of these Ids
abbrev pub HasOtherPlaces : (Id → Option Place) → List Placed → List Id → Type 0
HasOtherPlaces noted lines ids = ((x : Id) → Contains ids x → noted x ≡ None)
    × ((x : Id) → ¬ Contains ids x → noted x ≡ first_place lines x)

-- the place is noted for the Id, unless one is noted
abbrev pub IsNoted : (Id → Option Place) → Id → Place → (Id → Option Place) → Type 0
IsNoted before id place after =
    MatchOption (before id) (after id ≡ Some place) (λ p. after id ≡ Some p)
    × ((x : Id) → x ≢ id → after x ≡ before x)
