use Rattle.std.proofs.Common.{◌≡◌, ◌++◌, flat_map, zip, drop}
use Rattle.epx_report.specs.ViewLines.{level_line}
use Rattle.epx_views.proofs.level_text.append_levels.Given as goal

abbrev pub invariant-loop-position : goal.invariant-loop-position
invariant-loop-position l = l.text.items ++ flat_map level_line
    (zip (drop l.position l.ids) (drop l.position l.levels))
    ≡ l.fn.text.items ++ flat_map level_line (zip l.fn.ids l.fn.levels)
