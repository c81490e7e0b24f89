use Rattle.std.proofs.Common.{◌≡◌, ℕ, ◌+◌, ◌≤◌, ◌∙◌, sym, ap, ap₂, List, ◌++◌, append_assoc, drop}
use Rattle.std.proofs.Common.{slice_range, arith}
use Rattle.epx_types.proofs.Common.{map-append, drop_split, Contents, execute, Execution}
use Rattle.epx_types.proofs.Common.{execute-append}
use Rattle.epx_types.specs.declared.command.Command.{Command}
use Rattle.epx_types.specs.declared.reply.Reply.{Reply}
use Rattle.epx_apply.specs.inner.Effects.{op_lists_of}
use Rattle.epx_apply.proofs.one_by_one.run_one_by_one.Goals as goal

-- the commands from `start` on: first those below `end`, and then the others
module _ (cs : List Command) (start end : ℕ) (ordered : start ≤ end) (c : Contents) where
  abbrev run : Execution
  run = execute (op_lists_of (slice_range cs start end)) c

  abbrev rest : Contents → Execution
  rest d = execute (op_lists_of (drop end cs)) d

  abbrev all : Execution
  all = execute (op_lists_of (drop start cs)) c

  parts : op_lists_of (drop start cs)
      ≡ op_lists_of (slice_range cs start end) ++ op_lists_of (drop end cs)
  parts = ap op_lists_of (drop_split cs start end ordered)
      ∙ map-append (λ x. x.ops.now) (slice_range cs start end) (drop end cs)

  replies_after : (next : Contents) (so_far longer whole : List Reply) → next ≡ run.final
      → longer ≡ so_far ++ run.replies → so_far ++ all.replies ≡ whole
      → longer ++ (rest next).replies ≡ whole
  replies_after next so_far longer whole is_next is_longer was =
      ap₂ (λ rs d. rs ++ (rest d).replies) is_longer is_next
      ∙ append_assoc so_far run.replies (rest run.final).replies
      ∙ ap (λ rs. so_far ++ rs) (sym (ap (λ ops. (execute ops c).replies) parts
      ∙ (execute-append (op_lists_of (slice_range cs start end)) (op_lists_of (drop end cs)) c).0))
      ∙ was

  final_after : (next whole : Contents) → next ≡ run.final → all.final ≡ whole
      → (rest next).final ≡ whole
  final_after next whole is_next was =
      ap (λ d. (rest d).final) is_next
      ∙ sym (ap (λ ops. (execute ops c).final) parts
      ∙ (execute-append (op_lists_of (slice_range cs start end)) (op_lists_of (drop end cs)) c).1)
      ∙ was

pub loop-start-preserved : goal.loop-start-preserved
loop-start-preserved c =
    let h = c.loop-start.invariant in
    let start = c.loop-start.start in
    let end = start + c.min.result in
    let ordered : start ≤ end = omega arith in (
      omega arith,
      replies_after c.args.commands.now start end ordered c.loop-start.store _ _ _ _
          c.in_ok-run_few.ensures.store c.in_ok-run_few.ensures.replies h.1,
      final_after c.args.commands.now start end ordered c.loop-start.store _ _
          c.in_ok-run_few.ensures.store h.2,
    )
