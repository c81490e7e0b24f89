use Rattle.std.proofs.Common.{◌<◌, ◌+◌, List, ℕ, length, sym, ap, subst, arith}
use Rattle.epx_types.proofs.Common.{length-map, All-weaker, NoneConflict, AreLevels, commands_at}
use Rattle.epx_types.proofs.Common.{length-level_positions, level-no_conflict}
use Rattle.epx_apply.specs.inner.Effects.{op_lists_of}
use Rattle.epx_apply.proofs.LevelRunLemmas.{members-within, IsRunUpTo-step, final-at_end}
use Rattle.epx_apply.proofs.LevelRunLemmas.{replies-at_end}
use Rattle.epx_apply.proofs.run.run_levels.Goals as goal

pub run_level-requires-clause-few : goal.run_level-requires-clause-few
run_level-requires-clause-few g c κs within =
    let are : AreLevels (op_lists_of c.args.commands.now) c.in-Some.level_map =
    rw c.in-Some.is at c.in_ok-found.ensures in
    let fits = length-level_positions c.in-Some.level_map c.loop-level.level in
    omega (
      arith,
      fits,
      ap length c.members.ensures,
      are.whole,
      length-map c.args.commands.now (λ command. command.ops.now),
      c.requires,
    )

pub run_level-requires-clause-within : goal.run_level-requires-clause-within
run_level-requires-clause-within g c κs within =
    let are : AreLevels (op_lists_of c.args.commands.now) c.in-Some.level_map =
    rw c.in-Some.is at c.in_ok-found.ensures in
    All-weaker (λ i. i < length (op_lists_of c.args.commands.now))
    (λ i. i < length c.args.commands.now)
    (λ i l. omega (arith, l, length-map c.args.commands.now (λ command. command.ops.now)))
    c.members.result.now
    (members-within (op_lists_of c.args.commands.now) c.in-Some.level_map c.args.store
    c.loop-level.level c.members.result.now are c.members.ensures c.loop-level.work.store
    c.loop-level.work.replies.items (rw c.level_map.view_is at c.loop-level.invariant))

pub run_level-requires-clause-apart : goal.run_level-requires-clause-apart
run_level-requires-clause-apart g c κs within =
    let are : AreLevels (op_lists_of c.args.commands.now) c.in-Some.level_map =
    rw c.in-Some.is at c.in_ok-found.ensures in
    subst (λ (is : List ℕ). NoneConflict (commands_at (op_lists_of c.args.commands.now) is))
    (sym c.members.ensures)
    (level-no_conflict (op_lists_of c.args.commands.now) c.in-Some.level_map are
    c.loop-level.level)

pub loop-level-preserved : goal.loop-level-preserved
loop-level-preserved g c =
    let are : AreLevels (op_lists_of c.args.commands.now) c.in-Some.level_map =
    rw c.in-Some.is at c.in_ok-found.ensures in
    rw c.level_map.view_is
    (IsRunUpTo-step (op_lists_of c.args.commands.now) c.in-Some.level_map c.args.store
    c.loop-level.level c.members.result.now are c.members.ensures c.loop-level.work.store
    c.loop-level.work.replies.items (rw c.level_map.view_is at c.loop-level.invariant)
    (c.loop-level.level + 1) (omega arith) c.run_level.new.self.replies.items
    c.in_ok-run_level.ensures.replies c.run_level.new.self.store
    c.in_ok-run_level.ensures.store)

pub returns-clause-replies : goal.returns-clause-replies
returns-clause-replies g c =
    let are : AreLevels (op_lists_of c.args.commands.now) c.in-Some.level_map =
    rw c.in-Some.is at c.in_ok-found.ensures in
    replies-at_end (op_lists_of c.args.commands.now) c.in-Some.level_map c.args.store are
    c.loop-level.level (omega (arith, c.count-level-end.ensures)) c.loop-level.work.store
    c.loop-level.work.replies.items (rw c.level_map.view_is at c.loop-level.invariant)

pub returns-clause-store : goal.returns-clause-store
returns-clause-store g c =
    let are : AreLevels (op_lists_of c.args.commands.now) c.in-Some.level_map =
    rw c.in-Some.is at c.in_ok-found.ensures in
    final-at_end (op_lists_of c.args.commands.now) c.in-Some.level_map c.args.store are
    c.loop-level.level (omega (arith, c.count-level-end.ensures)) c.loop-level.work.store
    c.loop-level.work.replies.items (rw c.level_map.view_is at c.loop-level.invariant)
