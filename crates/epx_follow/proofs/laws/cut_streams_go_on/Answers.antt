use Rattle.epx_follow.proofs.CutLogLemmas.{CutStreamsGoOn-holds}
use Rattle.epx_follow.proofs.laws.cut_streams_go_on.Goals as goal

pub returns : goal.returns
returns c = CutStreamsGoOn-holds c.committed_map_is_unique.ensures c.waiting_list_is_unique.ensures
    c.same_executors_commit_alike.ensures
