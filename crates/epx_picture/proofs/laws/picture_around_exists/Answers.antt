use Rattle.epx_picture.proofs.PictureAroundLemmas.{PictureAroundExists-holds}
use Rattle.epx_picture.proofs.laws.picture_around_exists.Goals as goal

pub returns : goal.returns
returns c = PictureAroundExists-holds
