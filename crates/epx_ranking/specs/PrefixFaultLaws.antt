-- Laws of the faults of prefixes.
use Rattle.std.specs.Prelude.{◌≡◌, ◌≢◌, ◌⊎◌, ◌↔◌, List}
use Rattle.epx_types.specs.declared.id.Id.{Id}
use Rattle.epx_types.specs.CommittedMap.{ids_of}
use Rattle.epx_types.specs.Ids.{IsRising}
use Rattle.epx_types.specs.Instances.{Instance}
use Rattle.epx_types.specs.LawfulPrefixes.{IsLawfulPrefix}
use Rattle.epx_types.specs.LawfulOrders.{IsLawful}
use Rattle.epx_ranking.specs.declared.order_fault.OrderFault.{OrderFault}
use Rattle.epx_ranking.specs.declared.order_fault.OrderFault.TheVariants.{Memory}
use Rattle.epx_ranking.specs.PrefixFaults.{IsPrefixFault}
use Rattle.epx_ranking.specs.OrderFaults.{HasAllReady, IsOrderFault}

-- a list is a prefix of a lawful order of a committed map, or has a fault other than out of memory
abbrev pub PrefixOrFault : Type 0
PrefixOrFault = (m : List Instance) → IsRising (ids_of m) → (ids : List Id)
    → IsLawfulPrefix m ids
    ⊎ ((fault : OrderFault) × (fault ≢ Memory) × IsPrefixFault m ids fault)

-- a list has at most one fault as a prefix, except for out of memory
abbrev pub PrefixFaultIsUnique : Type 0
PrefixFaultIsUnique = (m : List Instance) (ids : List Id) (f g : OrderFault) → f ≢ Memory
    → g ≢ Memory → IsPrefixFault m ids f → IsPrefixFault m ids g → f ≡ g

-- a prefix of a lawful order has no fault as a prefix, except for out of memory
abbrev pub LawfulPrefixHasNoFault : Type 0
LawfulPrefixHasNoFault = (m : List Instance) (ids : List Id) (f : OrderFault) → f ≢ Memory
    → IsLawfulPrefix m ids → ¬ IsPrefixFault m ids f

-- a list with all ready instances is a lawful prefix exactly if it is a lawful order, and has
-- the same fault as a prefix and as an order
pub record WholeListsAreCheckedAlike : Type 0 where
  pub lawful : (m : List Instance) (ids : List Id) → HasAllReady m ids
      → IsLawfulPrefix m ids ↔ IsLawful m ids
  pub fault : (m : List Instance) (ids : List Id) → HasAllReady m ids → (f : OrderFault)
      → IsPrefixFault m ids f ↔ IsOrderFault m ids f
