-- Sound sets of done instances, with the contents that they left.
use Rattle.std.specs.Prelude.{◌≡◌, List, Contains}
use Rattle.std.specs.FinMap as contents
use Rattle.epx_types.specs.declared.id.Id.{Id}
use Rattle.epx_types.specs.Instances.{Instance}
use Rattle.epx_types.specs.Contents.{Contents}
use Rattle.epx_types.specs.Execution.{execute}
use Rattle.epx_types.specs.Readiness.{IsReady}
use Rattle.epx_types.specs.Reaching.{Reaches}
use Rattle.epx_types.specs.CommittedMap.{commands_in}
use Rattle.epx_types.specs.LawfulOrders.{IsLawfulFor}

-- The done instances are ready and include all that they reach. Some list that is lawful for them
-- leaves the contents c, executed from the empty contents
pub record IsSound (m : List Instance) (done : List Id) (c : Contents) : Type 0 where
  pub ready : (x : Id) → Contains done x → IsReady m x
  pub closed : (x y : Id) → Contains done x → Reaches m x y → Contains done y
  pub executed : (ids : List Id) × IsLawfulFor m (Contains done) ids
      × ((execute (commands_in m ids) contents.empty).final ≡ c)

-- each instance of the other map that is not done is an instance of m
abbrev pub HasRemaining : List Instance → List Id → List Instance → Type 0
HasRemaining m done other = (e : Instance) → Contains other e → ¬ Contains done e.id → Contains m e
