use Rattle.epx_types.proofs.Common.{IsExecutionOrder-unique}
use Rattle.epx_laws.proofs.order.execution_order_is_unique.Goals as goal

pub returns : goal.returns
returns c = IsExecutionOrder-unique
