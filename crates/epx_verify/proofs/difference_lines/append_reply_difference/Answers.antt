use Rattle.std.proofs.Common.{ap, ◌∙◌}
use Rattle.serde_json.specs.Written.{has_float}
use Rattle.epx_verify.proofs.DifferenceLineLemmas.{has_float-wrong_reply}
use Rattle.epx_verify.proofs.difference_lines.append_reply_difference.Goals as goal

pub append_line-requires : goal.append_line-requires
append_line-requires c = ap has_float c.in_ok-wrong_reply.ensures
    ∙ has_float-wrong_reply c.args.id c.args.said.now c.args.right.now
