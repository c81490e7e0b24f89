-- Prefixes of the orders that the protocol allows: what a replica has executed so far.
use Rattle.std.specs.Prelude.{List, ◌++◌}
use Rattle.epx_types.specs.declared.id.Id.{Id}
use Rattle.epx_types.specs.Instances.{Instance}
use Rattle.epx_types.specs.LawfulOrders.{IsLawful}

-- the list, followed by some further instances, is a lawful order of the map
abbrev pub IsLawfulPrefix : List Instance → List Id → Type 0
IsLawfulPrefix m ids = (rest : List Id) × IsLawful m (ids ++ rest)
