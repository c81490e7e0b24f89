use Rattle.std.proofs.Common.{◌∙◌, sym}
use Rattle.epx_trace.proofs.KeyTestLemmas.{has_key-writes_by}
use Rattle.epx_trace.proofs.command_keys.writes.Goals as goal

pub returns-in-Values : goal.returns-in-Values
returns-in-Values c after =
    c.has_write.ensures
    ∙ sym (has_key-writes_by c.args.reply.now _ c.in-Values.is c.args.ops.now after
    c.args.key.now)
