use Rattle.std.proofs.Common.{◌∙◌, ap}
use Rattle.epx_types.proofs.Common.{IfOk-weaker}
use Rattle.epx_words.specs.App.{with_input}
use Rattle.epx_words.proofs.commands.replay.Goals as goal

pub returns : goal.returns
returns c = IfOk-weaker c.with_input.result _ _
    (λ made is. is ∙ ap with_input c.in_ok-replay.ensures) c.with_input.ensures
