use Rattle.epx_devices.proofs.DeliveryLemmas.{AllAreTheKnown-holds}
use Rattle.epx_devices.proofs.laws.all_are_the_known.Goals as goal

pub returns : goal.returns
returns g c = AllAreTheKnown-holds g.S.Source.model g.met.S.Source.is_one_read
