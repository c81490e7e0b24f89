use Rattle.std.proofs.Common.{◌≡◌, List, map}
use Rattle.std.specs.FinMap as contents
use Rattle.epx_types.proofs.Common.{IfOk-at_ok, execute}
use Rattle.epx_types.specs.declared.command.Command.{Command}
use Rattle.epx_types.specs.declared.op.Op.{Op}
use Rattle.epx_linear.specs.ClientCalls.{calls_at}
use Rattle.epx_linear.specs.LateCalls.{AreFoundLate}
use Rattle.epx_tool.proofs.client_calls.run_beside.Goals as goal

abbrev ops_of : List Command → List (List Op)
ops_of commands = map (λ (c : Command). c.ops.now) commands

pub returns-clause-replies : goal.returns-clause-replies
returns-clause-replies g c = IfOk-at_ok
    (λ v. v.1.items ≡ (execute (ops_of c.args.commands.items) contents.empty).replies)
    c.in_ok-store.was c.join-late.ensures.second

pub returns-clause-late : goal.returns-clause-late
returns-clause-late g c = IfOk-at_ok
    (λ late. AreFoundLate (ops_of c.args.again.items)
    (calls_at c.args.history.now c.args.places.now) late.items)
    c.in_ok-late.was c.join-late.ensures.first
