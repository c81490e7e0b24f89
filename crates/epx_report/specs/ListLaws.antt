-- Any bytes are a list or a bad list, never both, and in one way only.
use Rattle.std.specs.Prelude.{◌≡◌, ◌⊎◌, ℕ, List}
use Rattle.epx_types.specs.declared.id.Id.{Id}
use Rattle.epx_report.specs.Lists.{IsList, IsBadList}

-- any bytes are a list, or are bad at some line
abbrev pub ListOrBadList : Type 0
ListOrBadList = (bytes : List ℕ) → ((ids : List Id) × IsList bytes ids)
    ⊎ ((line : ℕ) × IsBadList bytes line)

-- a list is bad at no line
abbrev pub ListIsNoBadList : Type 0
ListIsNoBadList = (bytes : List ℕ) (ids : List Id) (line : ℕ) → IsList bytes ids
    → ¬ IsBadList bytes line

-- two readings of one list agree on the instances and their order
abbrev pub ListNamesOneList : Type 0
ListNamesOneList = (bytes : List ℕ) (ids other : List Id) → IsList bytes ids → IsList bytes other
    → ids ≡ other

-- a text that is no list is bad at one line only
abbrev pub BadListIsBadAtOneLine : Type 0
BadListIsBadAtOneLine = (bytes : List ℕ) (line other : ℕ) → IsBadList bytes line
    → IsBadList bytes other → line ≡ other
