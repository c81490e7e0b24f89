use Rattle.std.proofs.Common.{◌≡◌, length, drop}
use Rattle.epx_types.proofs.Common.{execute, commands_at}
use Rattle.epx_apply.specs.inner.Effects.{op_lists_of, put_replies}
use Rattle.epx_apply.proofs.run.RunState.run_serially.Given as goal

abbrev pub invariant-loop-position : goal.invariant-loop-position
invariant-loop-position l =
    let left = drop l.position-index l.positions in
    let rest = execute (commands_at (op_lists_of l.commands) left) l.self.store in
    let whole = execute (commands_at (op_lists_of l.commands) l.positions) l.fn.self.store in
    (length l.self.replies.items ≡ length l.commands)
    × (rest.final ≡ whole.final)
    × (put_replies left rest.replies l.self.replies.items
    ≡ put_replies l.positions whole.replies l.fn.self.replies.items)
