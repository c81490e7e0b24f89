use Rattle.epx_devices.proofs.DeliveryLemmas.{AllAreReturned-reader}
use Rattle.epx_devices.proofs.laws.all_are_returned.Goals as goal

pub returns : goal.returns
returns g c = AllAreReturned-reader g.R.Read.remaining
