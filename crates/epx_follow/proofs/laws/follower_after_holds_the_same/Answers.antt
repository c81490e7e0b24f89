use Rattle.epx_follow.proofs.AfterLemmas.{FollowerAfterHoldsTheSame-holds}
use Rattle.epx_follow.proofs.laws.follower_after_holds_the_same.Goals as goal

pub returns : goal.returns
returns c = FollowerAfterHoldsTheSame-holds
