use Rattle.std.proofs.Common.{arith}
use Rattle.epx_types.proofs.Common.{common_steps, add_keys-append}
use Rattle.epx_verify.proofs.differences.list_keys.Goals as goal

pub returns : goal.returns
returns c = grind (arith, common_steps, add_keys-append)
