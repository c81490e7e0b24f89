use Rattle.std.proofs.Common.{◌≡◌, ◌+◌, ◌++◌, map, take}
use Rattle.epx_rows.proofs.rows.push_ends.Given as goal

abbrev pub invariant-loop-end : goal.invariant-loop-end
invariant-loop-end l = l.ends.items ≡ l.fn.ends.items
    ++ map (λ end. l.before + end) (take l.end-index l.later)
