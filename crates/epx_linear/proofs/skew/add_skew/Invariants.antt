use Rattle.std.proofs.Common.{◌≡◌, ◌++◌, map, take, drop}
use Rattle.epx_linear.specs.Skews.{later_by}
use Rattle.epx_linear.proofs.skew.add_skew.Given as goal

abbrev pub invariant-loop-call : goal.invariant-loop-call
invariant-loop-call l = l.call-items
    ≡ map (later_by l.skew) (take l.call-index l.fn.calls.items)
    ++ drop l.call-index l.fn.calls.items
