use Rattle.std.proofs.Common.{◌≡◌, ◌++◌, drop}
use Rattle.epx_types.proofs.Common.{execute}
use Rattle.epx_apply.specs.inner.Effects.{op_lists_of}
use Rattle.epx_apply.proofs.one_by_one.run_few.Given as goal

abbrev pub invariant-loop-index : goal.invariant-loop-index
invariant-loop-index l =
    let rest = execute (op_lists_of (drop l.index l.commands)) l.store in
    let whole = execute (op_lists_of l.commands) l.fn.store in
    (l.replies.items ++ rest.replies ≡ l.fn.replies.items ++ whole.replies)
    × (rest.final ≡ whole.final)
