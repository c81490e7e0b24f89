use Rattle.epx_apply.specs.inner.Effects.{op_lists_of}
use Rattle.epx_apply.proofs.LevelRunLemmas.{IsRunUpTo}
use Rattle.epx_apply.proofs.run.run_levels.Given as goal

abbrev pub invariant-loop-level : goal.invariant-loop-level
invariant-loop-level g l = IsRunUpTo (op_lists_of l.fn.commands) l.level_map-inside.levels.items
    l.fn.store l.level l.work.store l.work.replies.items
