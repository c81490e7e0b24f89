use Rattle.epx_picture.proofs.PictureLemmas.{IsPicture-exists}
use Rattle.epx_picture.proofs.laws.picture_exists.Goals as goal

pub returns : goal.returns
returns c = IsPicture-exists
