use Rattle.epx_executor.proofs.laws.all_committed_is_the_whole.Goals as goal

pub returns : goal.returns
returns c = λ m v sound covered all whole ordered.
    c.all_done_is_the_whole.ensures m sound.rising covered v.done v.store sound.sound all whole
    ordered
