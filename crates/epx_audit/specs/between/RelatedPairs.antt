-- Which pairs of positions of an execution order are related.
use Rattle.std.specs.Prelude.{◌≡◌, ◌↔◌, ℕ, ◌<◌, List, Bool, length, slice_get, Some, All, IsTrue}
use Rattle.epx_types.specs.ExecutionOrder.{Ranked}
use Rattle.epx_types.specs.Instances.{Instance}
use Rattle.epx_types.specs.Reaching.{Reaches}
use Rattle.epx_components.specs.between.ReadyMarks.{is_marked}

-- each pair has a later and then an earlier position, both below `count`
abbrev pub AreLaterFirst : ℕ → List (ℕ × ℕ) → Type 0
AreLaterFirst count pairs = All (λ pair. (pair.1 < pair.0) × (pair.0 < count)) pairs

-- there is a mark for each pair; where both positions are in the order, it is true exactly if the
-- instance at the first one reaches that at the second
pub record AreRelatedMarks (m : List Instance) (order : List Ranked) (pairs : List (ℕ × ℕ))
    (marks : List Bool) : Type 0 where
  pub each_pair : length marks ≡ length pairs
  pub exact : (i p q : ℕ) (r s : Ranked) → slice_get pairs i ≡ Some (p, q)
      → slice_get order p ≡ Some r → slice_get order q ≡ Some s
      → IsTrue (is_marked marks i) ↔ Reaches m r.id s.id
