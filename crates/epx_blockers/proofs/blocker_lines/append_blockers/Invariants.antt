use Rattle.std.proofs.Common.{◌≡◌, ◌++◌, flat_map, take}
use Rattle.epx_blockers.specs.BlockerLines.{blocks_line}
use Rattle.epx_blockers.proofs.blocker_lines.append_blockers.Given as goal

abbrev pub invariant-loop-blocker : goal.invariant-loop-blocker
invariant-loop-blocker l = l.text.items
    ≡ l.initial.text.items ++ flat_map blocks_line (take l.blocker-index l.blockers)
