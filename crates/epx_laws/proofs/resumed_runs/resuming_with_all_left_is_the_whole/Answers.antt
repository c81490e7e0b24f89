use Rattle.epx_types.proofs.Common.{remaining, ranked_ids, IsExecutionOrder-IsLawful, final-resumed}
use Rattle.epx_laws.proofs.resumed_runs.resuming_with_all_left_is_the_whole.Goals as goal

pub returns : goal.returns
returns c = λ m other done d can all covered order whole ordered ordered'.
    final-resumed m can.rising done d can.sound other can.has (ranked_ids order)
    (IsExecutionOrder-IsLawful (remaining done other) order ordered) all covered
    (ranked_ids whole) (IsExecutionOrder-IsLawful m whole ordered')
