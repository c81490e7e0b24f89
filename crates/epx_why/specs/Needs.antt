-- What an instance needs, and what needs it, each with the length of a shortest path.
use Rattle.std.specs.Prelude.{ℕ, List, map, Contains}
use Rattle.epx_types.specs.declared.id.Id.{Id}
use Rattle.epx_types.specs.Ids.{IsRising}
use Rattle.epx_types.specs.Instances.{Instance}
use Rattle.epx_types.specs.CommittedMap.{IsCommitted}
use Rattle.epx_why.specs.declared.need.Need.{Need}
use Rattle.epx_why.specs.Distances.{IsDistance}

-- `needs` has exactly the Ids and numbers of steps of which `IsNeed` holds, by rising Id, no Id
-- twice
pub record AreNeeds (IsNeed : Id → ℕ → Type 0) (needs : List Need) : Type 0 where
  pub only : (n : Need) → Contains needs n → IsNeed n.id n.steps
  pub whole : (x : Id) (steps : ℕ) → IsNeed x steps
      → Contains needs (record { id = x; steps = steps })
  pub rising : IsRising (map (λ n. n.id) needs)

-- the instances that are not committed and to which a path leads from x, each with the steps of a
-- shortest one
abbrev pub AreNeedsOf : List Instance → Id → List Need → Type 0
AreNeedsOf m x = AreNeeds (λ y steps. (¬ IsCommitted m y) × IsDistance m x y steps)

-- the instances from which a path leads to y, each with the steps of a shortest one
abbrev pub AreNeeding : List Instance → Id → List Need → Type 0
AreNeeding m y = AreNeeds (λ x steps. IsDistance m x y steps)
