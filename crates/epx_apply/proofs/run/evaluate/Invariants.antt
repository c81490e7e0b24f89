use Rattle.std.proofs.Common.{◌≡◌, ◌++◌, drop}
use Rattle.epx_types.proofs.Common.{commands_at}
use Rattle.epx_apply.specs.inner.Effects.{op_lists_of, effects_over}
use Rattle.epx_apply.proofs.run.evaluate.Given as goal

abbrev pub invariant-loop-position : goal.invariant-loop-position
invariant-loop-position l =
    l.effects.items ++ effects_over l.store
    (commands_at (op_lists_of l.commands) (drop l.position-index l.positions))
    ≡ effects_over l.store (commands_at (op_lists_of l.commands) l.positions)
