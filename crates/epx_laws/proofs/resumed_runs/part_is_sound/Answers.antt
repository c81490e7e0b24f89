use Rattle.epx_types.proofs.Common.{ranked_ids, IsExecutionOrder-IsLawful, IsSound-part}
use Rattle.epx_laws.proofs.resumed_runs.part_is_sound.Goals as goal

pub returns : goal.returns
returns c = λ m part rising within order ordered.
    IsSound-part m rising part within (ranked_ids order)
    (IsExecutionOrder-IsLawful part order ordered)
