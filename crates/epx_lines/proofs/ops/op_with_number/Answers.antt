use Rattle.std.proofs.Common.{arith}
use Rattle.epx_types.proofs.Common.{common_steps}
use Rattle.epx_lines.specs.OperationList.{op_with_value}
use Rattle.epx_lines.proofs.OperationValueLemmas.{value_or_null-signed, key_of-signed}
use Rattle.epx_lines.proofs.ops.op_with_number.Goals as goal

pub returns-then-eq-3 : goal.returns-then-eq-3
unfolding op_with_value
returns-then-eq-3 c d is =
    let value = value_or_null-signed d c.args.number is in
    grind (arith, common_steps, value)

pub returns-else-eq-4 : goal.returns-else-eq-4
unfolding op_with_value
returns-else-eq-4 c d is =
    let no_key = key_of-signed d c.args.number is in
    grind (arith, common_steps, no_key)
