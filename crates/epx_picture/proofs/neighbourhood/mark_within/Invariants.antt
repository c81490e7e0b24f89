use Rattle.epx_picture.specs.inner.NodeMarks.{IsSearched}
use Rattle.epx_picture.proofs.neighbourhood.mark_within.Given as goal

abbrev pub invariant-loop-step : goal.invariant-loop-step
invariant-loop-step l = IsSearched l.graph l._step l.node
    (record { marks = l.marks.items; level = l.level.items })
