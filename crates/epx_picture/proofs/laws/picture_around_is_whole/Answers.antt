use Rattle.epx_picture.proofs.PictureAroundLemmas.{PictureAroundIsWhole-holds}
use Rattle.epx_picture.proofs.laws.picture_around_is_whole.Goals as goal

pub returns : goal.returns
returns c = PictureAroundIsWhole-holds
