use Rattle.epx_devices.proofs.DeliveryLemmas.{PathDeliversOpened-holds}
use Rattle.epx_devices.proofs.laws.path_delivers_its_file.Goals as goal

pub returns : goal.returns
returns g c = PathDeliversOpened-holds g.O.Opener.model g.O.Opened.Source.model
