use Rattle.epx_picture.proofs.PictureAroundLemmas.{FurtherStepsAddNothing-holds}
use Rattle.epx_picture.proofs.laws.further_steps_add_nothing.Goals as goal

pub returns : goal.returns
returns c = FurtherStepsAddNothing-holds
