use Rattle.std.proofs.Common.{take}
use Rattle.epx_graph.specs.inner.Searches.{IsVisit}
use Rattle.epx_graph.proofs.search.visit.Given as goal

abbrev pub invariant-loop-target : goal.invariant-loop-target
invariant-loop-target l = IsVisit (take l.target-index l.targets) l.mark
    (record { marks = l.initial.marks; level = l.initial.next.items })
    (record { marks = l.marks; level = l.next.items })
