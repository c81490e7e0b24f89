use Rattle.std.proofs.Common.{map, arith}
use Rattle.epx_neighbours.specs.inner.KeyNumbers.{keys_in}
use Rattle.epx_neighbours.proofs.KeyNumberLemmas.{add_keys-step, add_keys-at_end}
use Rattle.epx_neighbours.proofs.key_numbers.gather_keys.Goals as goal

pub loop-command-preserved : goal.loop-command-preserved
loop-command-preserved c =
    add_keys-step c.args.commands.now c.loop-command.command-index c.command-item.result _ _
    (keys_in (map (λ c. c.ops.now) c.args.commands.now)) (omega arith) c.command-item.is
    c.in_ok-add_command.ensures c.loop-command.invariant

pub returns : goal.returns
returns c =
    add_keys-at_end c.args.commands.now c.loop-command.command-index _
    (keys_in (map (λ c. c.ops.now) c.args.commands.now)) (omega (arith, c.loop-command-test.false))
    c.loop-command.invariant
