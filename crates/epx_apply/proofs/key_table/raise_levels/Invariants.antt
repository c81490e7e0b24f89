use Rattle.std.proofs.Common.{◌≡◌, length, take, fold}
use Rattle.epx_apply.specs.inner.LevelTables.{raise}
use Rattle.epx_apply.proofs.key_table.raise_levels.Given as goal

abbrev pub invariant-loop-access : goal.invariant-loop-access
invariant-loop-access l = (length l.key_levels ≡ length l.initial.key_levels)
    × (l.key_levels ≡ fold (raise l.least) l.initial.key_levels (take l.access-index l.accesses))
