use Rattle.std.proofs.Common.{◌≡◌, ◌++◌, flat_map, take}
use Rattle.epx_why.specs.WhyLines.{need_line}
use Rattle.epx_why.proofs.why_lines.append_needs.Given as goal

abbrev pub invariant-loop-need : goal.invariant-loop-need
invariant-loop-need l = l.text.items
    ≡ l.initial.text.items ++ flat_map (need_line l.name) (take l.need-index l.needs)
