use Rattle.std.proofs.Common.{ap, ◌∙◌}
use Rattle.serde_json.specs.Written.{has_float}
use Rattle.epx_verify.proofs.DifferenceLineLemmas.{has_float-wrong_value}
use Rattle.epx_verify.proofs.difference_lines.append_value_difference.Goals as goal

pub append_line-requires : goal.append_line-requires
append_line-requires c = ap has_float c.in_ok-wrong_value.ensures
    ∙ has_float-wrong_value c.args.key.now c.get-said.result c.get-right.result
