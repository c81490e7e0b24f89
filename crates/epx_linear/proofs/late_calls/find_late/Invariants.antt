use Rattle.std.proofs.Common.{map}
use Rattle.epx_linear.proofs.PassLemmas.{HaveFound}
use Rattle.epx_linear.proofs.late_calls.find_late.Given as goal

abbrev pub invariant-loop-index : goal.invariant-loop-index
invariant-loop-index l = HaveFound (map (λ c. c.ops.now) l.commands) l.places l.spans.spans.items
    l.spans.ranks.items l.index l.table l.found.items
