use Rattle.std.proofs.Common.{◌∙◌, ap}
use Rattle.epx_types.proofs.Common.{IfOk-weaker}
use Rattle.epx_linear.specs.LinearTexts.{findings, or_linear}
use Rattle.epx_linear.proofs.answer.linear_text.Goals as goal

pub returns : goal.returns
returns c =
    IfOk-weaker c.or_linear.result _ _ (λ line is. is ∙ ap or_linear (c.in_ok-text.ensures
    ∙ ap (λ h. findings c.args.ids.now c.args.replies.now h c.args.late.now)
    c.calls.ensures.calls))
    c.or_linear.ensures
