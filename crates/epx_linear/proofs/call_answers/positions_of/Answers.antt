use Rattle.std.proofs.Common.{◌∙◌, ap}
use Rattle.epx_types.specs.declared.command.Command.{Command}
use Rattle.epx_linear.proofs.SpanLemmas.{map-take_new_id}
use Rattle.epx_linear.proofs.call_answers.positions_of.Goals as goal

pub loop-command-preserved : goal.loop-command-preserved
loop-command-preserved c = c.in_ok-insert.ensures.keys
    ∙ map-take_new_id (λ (c : Command). c.id) c.args.commands.now c.requires
    c.loop-command.command-index _ c.loop-command-test.true c.command-item.result.id
    (ap (λ (c : Command). c.id) c.command-item.is) c.loop-command.ids.keys
    c.loop-command.invariant
