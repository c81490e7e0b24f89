use Rattle.epx_executor.specs.ExecutorLaws.{new_executor}
use Rattle.epx_executor.proofs.HistoryLemmas.{Contains-ready_done, IsSoundFor-after}
use Rattle.epx_executor.proofs.laws.calls_leave_what_the_whole_leaves.Goals as goal

pub returns : goal.returns
returns c = λ m rising covered calls after are from all whole ordered.
    let sound = IsSoundFor-after m c.committing_stays_sound.ensures calls new_executor after
    (c.new_executor_is_sound.ensures m rising) are from in
    let done =
    Contains-ready_done m rising calls after are all sound c.nothing_is_held_back.ensures in
    (done, c.all_committed_is_the_whole.ensures m after sound covered done whole ordered)
