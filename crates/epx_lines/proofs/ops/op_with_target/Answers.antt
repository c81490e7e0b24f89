use Rattle.std.proofs.Common.{arith}
use Rattle.epx_types.proofs.Common.{common_steps}
use Rattle.epx_lines.specs.OperationList.{op_with_value}
use Rattle.epx_lines.proofs.OperationValueLemmas.{signed-key_of, value_or_null-key_of}
use Rattle.epx_lines.proofs.ops.op_with_target.Goals as goal

pub returns-else-eq : goal.returns-else-eq
unfolding op_with_value
returns-else-eq c d is =
    let no_number = signed-key_of d c.args.target is in
    let neither = value_or_null-key_of d c.args.target is in
    grind (arith, common_steps, no_number, neither)
