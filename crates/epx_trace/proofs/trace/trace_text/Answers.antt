use Rattle.std.proofs.Common.{rules}
use Rattle.epx_trace.proofs.CommandPairLemmas.{map-command_of}
use Rattle.epx_trace.proofs.trace.trace_text.Goals as goal

pub returns : goal.returns
returns c =
    let commands = c.in_ok-commands.commands.items in
    let paired = map-command_of c.args.merged.now c.ids.result.now commands
    c.in_ok-commands.ensures.ids c.in_ok-commands.ensures.ops in
    search (rules, paired)
