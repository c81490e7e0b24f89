-- Laws of pairs that are not covered.
use Rattle.std.specs.Prelude.{◌≡◌, ◌⊎◌, List}
use Rattle.epx_types.specs.declared.id.Id.{Id}
use Rattle.epx_types.specs.Conflicts.{IsCovered}
use Rattle.epx_types.specs.Instances.{Instance}
use Rattle.epx_audit.specs.Uncovered.{IsUncovered, IsLeastUncovered}

-- a map with an uncovered pair is not covered
abbrev pub UncoveredPairShowsNotCovered : Type 0
UncoveredPairShowsNotCovered = (m : List Instance) (x y : Id) → IsUncovered m x y → ¬ IsCovered m

-- a map has at most one least uncovered pair
abbrev pub LeastUncoveredPairIsUnique : Type 0
LeastUncoveredPairIsUnique = (m : List Instance) (x y v w : Id) → IsLeastUncovered m x y
    → IsLeastUncovered m v w → (x ≡ v) × (y ≡ w)

-- a map is covered, or has a least uncovered pair
abbrev pub CoveredOrLeastUncovered : Type 0
CoveredOrLeastUncovered = (m : List Instance) → IsCovered m ⊎ ((x y : Id) × IsLeastUncovered m x y)
