-- Lines that agree, and their first disagreement.
use Rattle.std.specs.Prelude.{◌≡◌, ◌≢◌, List, Contains}
use Rattle.epx_types.specs.declared.id.Id.{Id}
use Rattle.epx_types.specs.Ids.{UpTo}
use Rattle.epx_types.specs.PlacedLines.{Placed, Earlier}

-- any two of the lines that commit the same Id commit the same sequence number, list of
-- dependencies and list of operations
abbrev pub Agree : List Placed → Type 0
Agree lines = (p q : Placed) → Contains lines p → Contains lines q → p.instance.id ≡ q.instance.id
    → p.instance ≡ q.instance

-- both lines name one instance and commit it differently
abbrev pub Differ : Placed → Placed → Type 0
Differ p q = (p.instance.id ≡ q.instance.id) × (p.instance ≢ q.instance)

-- `id` is the least Id of which two lines differ; `first` is its line at the earliest place, and
-- `second` the line at the earliest place that differs from `first`
pub record IsFirstDisagreement (lines : List Placed) (id : Id) (first second : Placed) : Type
    0 where
  pub has_first : Contains lines first
  pub has_second : Contains lines second
  pub named : first.instance.id ≡ id
  pub differ : Differ first second
  pub least : (p q : Placed) → Contains lines p → Contains lines q → Differ p q
      → UpTo id p.instance.id
  pub opens : (p : Placed) → Contains lines p → p.instance.id ≡ id → ¬ Earlier p.place first.place
  pub follows : (q : Placed) → Contains lines q → Differ first q → ¬ Earlier q.place second.place
