use Rattle.epx_devices.proofs.DeliveryLemmas.{FileReturnsAll-reader}
use Rattle.epx_devices.proofs.laws.file_returns_all.Goals as goal

pub returns : goal.returns
returns g c = FileReturnsAll-reader g.R.File.Read.remaining
