use Rattle.epx_picture.proofs.UniquePictureLemmas.{PictureAroundIsUnique-holds}
use Rattle.epx_picture.proofs.laws.picture_around_is_unique.Goals as goal

pub returns : goal.returns
returns c = PictureAroundIsUnique-holds
