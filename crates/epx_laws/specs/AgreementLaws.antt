-- Laws of what the lines of logs commit.
use Rattle.std.specs.Prelude.{◌≡◌, ◌↔◌, ℕ, List, Contains, Some, slice_get}
use Rattle.epx_types.specs.declared.id.Id.{Id}
use Rattle.epx_types.specs.Instances.{Instance}
use Rattle.epx_types.specs.PlacedLines.{Placed, HaveDistinctPlaces}
use Rattle.epx_types.specs.Agreement.{Agree, IsFirstDisagreement}
use Rattle.epx_types.specs.CommittedMap.{ids_of, instance_of, position_of, IsCommittedBy}
use Rattle.epx_types.specs.Ids.{IsRising}
use Rattle.epx_laws.specs.AtMostOne.{AtMostOne}

-- two committed maps of the same lines are equal
abbrev pub CommittedMapIsUnique : Type 0
CommittedMapIsUnique = (lines : List Placed) → AtMostOne (IsCommittedBy lines)

-- lines that have a committed map agree
abbrev pub CommittedLinesAgree : Type 0
CommittedLinesAgree = (lines : List Placed) (m : List Instance) → IsCommittedBy lines m
    → Agree lines

-- lines with a first disagreement do not agree
abbrev pub DisagreementExcludesAgreement : Type 0
DisagreementExcludesAgreement = (lines : List Placed) (id : Id) (first second : Placed)
    → IsFirstDisagreement lines id first second → ¬ Agree lines

-- two first disagreements of lines with distinct places are equal
abbrev pub FirstDisagreementIsUnique : Type 0
FirstDisagreementIsUnique = (lines : List Placed) → HaveDistinctPlaces lines
    → (id id' : Id) (first second first' second' : Placed) →
    IsFirstDisagreement lines id first second → IsFirstDisagreement lines id' first' second'
    → (id ≡ id') × (first ≡ first') × (second ≡ second')

-- in a map whose Ids rise, looking up an Id (`instance_of`) finds an instance exactly if the
-- instance is in the map and has this Id
abbrev pub LookUpFindsInstance : Type 0
LookUpFindsInstance = (m : List Instance) → IsRising (ids_of m) → (x : Id) (e : Instance)
    → (instance_of m x ≡ Some e) ↔ Contains m e × (e.id ≡ x)

-- in a map whose Ids rise, `position_of` an Id is i exactly if the instance at position i of the
-- map, from 0, has this Id
abbrev pub PositionHasInstance : Type 0
PositionHasInstance = (m : List Instance) → IsRising (ids_of m) → (x : Id) (i : ℕ)
    → (position_of m x ≡ Some i) ↔ (e : Instance) × (slice_get m i ≡ Some e) × (e.id ≡ x)

-- each instance that a line of the second list commits is also committed by a line of the first
-- list
abbrev pub HaveInstancesOf : List Placed → List Placed → Type 0
HaveInstancesOf lines other = (p : Placed) → Contains other p → (q : Placed) × Contains lines q
    × (q.instance ≡ p.instance)

-- lines with the same instances commit the same map: neither the order of logs and lines nor
-- repeated lines change what is committed
abbrev pub SameInstancesCommitAlike : Type 0
SameInstancesCommitAlike = (lines other : List Placed) → HaveInstancesOf lines other
    → HaveInstancesOf other lines →
    (m : List Instance) → IsCommittedBy lines m ↔ IsCommittedBy other m
