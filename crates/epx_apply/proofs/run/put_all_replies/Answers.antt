use Rattle.epx_apply.proofs.ReplyLemmas.{its_position-within, ArePutUpTo-step}
use Rattle.epx_apply.proofs.run.put_all_replies.Goals as goal

pub put_reply-requires : goal.put_reply-requires
put_reply-requires c =
    let steps = c.in-Some.ensures.steps in
    its_position-within _ _ _ _ _ _ _ _ steps.0 steps.1.0 c.loop-position.invariant

pub loop-position-preserved : goal.loop-position-preserved
loop-position-preserved c =
    let steps = c.in-Some.ensures.steps in
    ArePutUpTo-step _ _ _ _ _ _ _ _ steps.0 steps.1.0 c.loop-position.invariant _
    c.put_reply.ensures
