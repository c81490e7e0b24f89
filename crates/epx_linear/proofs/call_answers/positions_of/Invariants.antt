use Rattle.std.proofs.Common.{◌≡◌, map, take}
use Rattle.epx_linear.proofs.call_answers.positions_of.Given as goal

abbrev pub invariant-loop-command : goal.invariant-loop-command
invariant-loop-command l = l.ids.keys ≡ map (λ c. c.id) (take l.command-index l.commands)
