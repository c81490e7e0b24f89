use Rattle.std.proofs.Common.{refl}
use Rattle.epx_laws.proofs.comparisons.orders_are_as_stated.Goals as goal

pub returns : goal.returns
returns c = record { keys = refl; ids = refl; places = refl }
