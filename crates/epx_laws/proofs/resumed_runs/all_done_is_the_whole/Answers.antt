use Rattle.epx_types.proofs.Common.{ranked_ids, IsExecutionOrder-IsLawful, IsSound-final}
use Rattle.epx_laws.proofs.resumed_runs.all_done_is_the_whole.Goals as goal

pub returns : goal.returns
returns c = λ m rising covered done d sound all whole ordered.
    IsSound-final m rising done d sound covered all (ranked_ids whole)
    (IsExecutionOrder-IsLawful m whole ordered)
