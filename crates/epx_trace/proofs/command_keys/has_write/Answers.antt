use Rattle.epx_trace.proofs.KeyTestLemmas.{list_any-writes}
use Rattle.epx_trace.proofs.command_keys.has_write.Goals as goal

pub loop-op-init : goal.loop-op-init
loop-op-init c = list_any-writes c.args.ops.now c.args.key.now
