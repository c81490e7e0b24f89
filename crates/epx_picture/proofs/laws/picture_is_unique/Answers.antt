use Rattle.epx_picture.proofs.UniquePictureLemmas.{PictureIsUnique-holds}
use Rattle.epx_picture.proofs.laws.picture_is_unique.Goals as goal

pub returns : goal.returns
returns c = PictureIsUnique-holds
