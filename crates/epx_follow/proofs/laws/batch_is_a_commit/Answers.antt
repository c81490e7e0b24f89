use Rattle.epx_follow.proofs.BatchEndLemmas.{BatchIsACommit-holds}
use Rattle.epx_follow.proofs.laws.batch_is_a_commit.Goals as goal

pub returns : goal.returns
returns c = BatchIsACommit-holds
