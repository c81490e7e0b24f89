use Rattle.epx_follow.proofs.SameFollowerLemmas.{SameFollowersFollowAlike-holds}
use Rattle.epx_follow.proofs.laws.same_followers_follow_alike.Goals as goal

pub returns : goal.returns
returns c = SameFollowersFollowAlike-holds c.committed_map_is_unique.ensures
    c.waiting_list_is_unique.ensures c.same_executors_commit_alike.ensures
