use Rattle.epx_types.proofs.Common.{remaining, ranked_ids, IsExecutionOrder-IsLawful}
use Rattle.epx_types.proofs.Common.{IsSound-resumed}
use Rattle.epx_laws.proofs.resumed_runs.resuming_stays_sound.Goals as goal

pub returns : goal.returns
returns c = λ m other done d can order ordered.
    IsSound-resumed m can.rising done d can.sound other can.has (ranked_ids order)
    (IsExecutionOrder-IsLawful (remaining done other) order ordered)
