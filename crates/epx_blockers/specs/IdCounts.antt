-- How many Ids have a property.
use Rattle.std.specs.Prelude.{◌≡◌, ◌↔◌, ℕ, List, length, Contains}
use Rattle.epx_types.specs.declared.id.Id.{Id}
use Rattle.epx_types.specs.Ids.{IsRising}

-- exactly the Ids with the property, by rising Id
pub record IsListOf (P : Id → Type 0) (ids : List Id) : Type 0 where
  pub rising : IsRising ids
  pub exact : (x : Id) → Contains ids x ↔ P x

-- exactly n Ids have the property
pub record IsCount (P : Id → Type 0) (n : ℕ) : Type 0 where
  pub ids : List Id
  pub listed : IsListOf P ids
  pub counted : length ids ≡ n
