use Rattle.std.proofs.Common.{◌≡◌, flat_map, take}
use Rattle.epx_trace.specs.TraceLines.{touch_line}
use Rattle.epx_trace.proofs.trace.lines_of.Given as goal

abbrev pub invariant-loop-touch : goal.invariant-loop-touch
invariant-loop-touch l = l.text.items
    ≡ flat_map (touch_line l.reads) (take l.touch-index l.touches)
