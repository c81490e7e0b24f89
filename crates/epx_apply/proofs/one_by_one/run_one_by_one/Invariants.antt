use Rattle.std.proofs.Common.{◌≡◌, ◌++◌, ◌-◌, ◌≤◌, drop, length}
use Rattle.epx_types.proofs.Common.{execute}
use Rattle.epx_apply.specs.inner.Effects.{op_lists_of}
use Rattle.epx_apply.proofs.one_by_one.run_one_by_one.Given as goal

abbrev pub invariant-loop-start : goal.invariant-loop-start
invariant-loop-start l =
    let rest = execute (op_lists_of (drop l.start l.commands)) l.store in
    let whole = execute (op_lists_of l.commands) l.fn.store in
    (l.start ≤ length l.commands) × (l.replies.items ++ rest.replies ≡ whole.replies)
    × (rest.final ≡ whole.final)

abbrev pub decreases-loop-start : goal.decreases-loop-start
decreases-loop-start l = length l.commands - l.start
