use Rattle.std.proofs.Common.{◌≡◌, ◌++◌, map, drop}
use Rattle.std.specs.FinMap as contents
use Rattle.epx_types.proofs.Common.{execute}
use Rattle.epx_verify.proofs.execution.execute_list.Given as goal

abbrev pub invariant-loop-command : goal.invariant-loop-command
invariant-loop-command l = record {
  replies : l.replies.items
      ++ (execute (map (λ c. c.ops.now) (drop l.command-index l.command-items)) l.store).replies
      ≡ (execute (map (λ c. c.ops.now) l.command-items) contents.empty).replies;
  final : (execute (map (λ c. c.ops.now) (drop l.command-index l.command-items)) l.store).final
      ≡ (execute (map (λ c. c.ops.now) l.command-items) contents.empty).final;
}
