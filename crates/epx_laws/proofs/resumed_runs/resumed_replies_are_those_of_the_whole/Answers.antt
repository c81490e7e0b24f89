use Rattle.std.proofs.Common.{◌∙◌, sym}
use Rattle.epx_types.proofs.Common.{remaining, ranked_ids, IsExecutionOrder-IsLawful, reply-resumed}
use Rattle.epx_laws.proofs.resumed_runs.resumed_replies_are_those_of_the_whole.Goals as goal

pub returns : goal.returns
returns c = λ m other done d can covered order whole ordered ordered' x r (i, at, is).
    let same = reply-resumed m can.rising done d can.sound other can.has (ranked_ids order)
    (IsExecutionOrder-IsLawful (remaining done other) order ordered) covered (ranked_ids whole)
    (IsExecutionOrder-IsLawful m whole ordered') i x at in
    (same.0, same.1, sym same.2 ∙ is)
