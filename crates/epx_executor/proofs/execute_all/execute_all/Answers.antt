use Rattle.std.proofs.Common.{map, length, ap, ◌∙◌}
use Rattle.epx_types.proofs.Common.{length-map, length-replies}
use Rattle.epx_types.specs.declared.command.Command.{Command}
use Rattle.epx_executor.proofs.execute_all.execute_all.Goals as goal

pub pair_up-requires : goal.pair_up-requires
pair_up-requires g c =
    let ops = λ (k : Command). k.ops.now in
    ap length c.in_ok-store.ensures.replies
    ∙ length-replies (map ops c.args.commands.now) c.args.store
    ∙ length-map c.args.commands.now ops ∙ c.requires.same
