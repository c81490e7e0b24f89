use Rattle.std.proofs.Common.{◌≡◌, ◌++◌, flat_map, drop}
use Rattle.epx_linear.specs.LinearTexts.{lost_line}
use Rattle.epx_linear.proofs.answer.append_all_lost.Given as goal

abbrev pub invariant-loop-id : goal.invariant-loop-id
invariant-loop-id l = l.text.items ++ flat_map lost_line (drop l.id-index l.ids)
    ≡ l.fn.text.items ++ flat_map lost_line l.ids
