-- Laws of the faults of orders.
use Rattle.std.specs.Prelude.{◌≡◌, ◌≢◌, List}
use Rattle.epx_types.specs.declared.id.Id.{Id}
use Rattle.epx_types.specs.Instances.{Instance}
use Rattle.epx_types.specs.LawfulOrders.{IsLawful}
use Rattle.epx_ranking.specs.declared.order_fault.OrderFault.{OrderFault}
use Rattle.epx_ranking.specs.declared.order_fault.OrderFault.TheVariants.{Memory}
use Rattle.epx_ranking.specs.OrderFaults.{IsOrderFault}

-- a list has at most one fault, except for out of memory
abbrev pub OrderFaultIsUnique : Type 0
OrderFaultIsUnique = (m : List Instance) (ids : List Id) (f g : OrderFault)
    → f ≢ Memory → g ≢ Memory → IsOrderFault m ids f → IsOrderFault m ids g → f ≡ g

-- a lawful order has no fault, except for out of memory
abbrev pub LawfulOrderHasNoFault : Type 0
LawfulOrderHasNoFault = (m : List Instance) (ids : List Id) (f : OrderFault) → f ≢ Memory
    → IsLawful m ids → ¬ IsOrderFault m ids f
