use Rattle.epx_trace.proofs.KeyTestLemmas.{list_any-touches}
use Rattle.epx_trace.proofs.command_keys.touches.Goals as goal

pub loop-op-init : goal.loop-op-init
loop-op-init c = list_any-touches c.args.ops.now c.args.key.now
