use Rattle.epx_executor.specs.ExecutorLaws.{new_executor}
use Rattle.epx_executor.proofs.HistoryLemmas.{HasReply-in_call}
use Rattle.epx_executor.proofs.laws.calls_reply_as_the_whole.Goals as goal

pub returns : goal.returns
returns c = λ m rising covered calls after are from whole ordered.
    HasReply-in_call m c.committing_stays_sound.ensures
    c.committed_replies_are_those_of_the_whole.ensures
    covered whole ordered calls new_executor after (c.new_executor_is_sound.ensures m rising) are
    from
