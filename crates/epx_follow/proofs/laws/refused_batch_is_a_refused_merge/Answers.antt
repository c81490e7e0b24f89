use Rattle.epx_follow.proofs.PlaceOrderLemmas.{RefusedBatchIsARefusedMerge-holds}
use Rattle.epx_follow.proofs.laws.refused_batch_is_a_refused_merge.Goals as goal

pub returns : goal.returns
returns c = RefusedBatchIsARefusedMerge-holds
