use Rattle.std.proofs.Common.{◌≡◌, max, take, fold}
use Rattle.epx_apply.specs.inner.LevelTables.{level_for}
use Rattle.epx_apply.proofs.key_table.least_level.Given as goal

abbrev pub invariant-loop-access : goal.invariant-loop-access
invariant-loop-access l = l.level ≡ fold (λ level a. max level (level_for l.key_levels a)) 0
    (take l.access-index l.accesses)
