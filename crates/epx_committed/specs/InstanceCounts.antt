-- How many distinct instances lines have, and whether they are too many.
use Rattle.std.specs.Prelude.{◌≡◌, ◌<◌, ◌≤◌, List, length, Contains}
use Rattle.epx_types.specs.declared.id.Id.{Id}
use Rattle.epx_types.specs.Ids.{IsRising}
use Rattle.epx_types.specs.Limits.{max_instances}
use Rattle.epx_types.specs.PlacedLines.{Placed}

-- the distinct Ids of the lines, by rising Id
pub record AreNamedBy (lines : List Placed) (ids : List Id) : Type 0 where
  pub rising : IsRising ids
  pub whole : (p : Placed) → Contains lines p → Contains ids p.instance.id
  pub named : (x : Id) → Contains ids x → (p : Placed) × Contains lines p × (p.instance.id ≡ x)

-- the lines have at most `max_instances` distinct Ids
abbrev pub FewInstances : List Placed → Type 0
FewInstances lines = (ids : List Id) × AreNamedBy lines ids × (length ids ≤ max_instances)

-- the lines have more distinct Ids than `max_instances`
abbrev pub ManyInstances : List Placed → Type 0
ManyInstances lines = (ids : List Id) × AreNamedBy lines ids × (max_instances < length ids)
