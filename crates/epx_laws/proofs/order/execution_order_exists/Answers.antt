use Rattle.epx_types.proofs.Common.{IsExecutionOrder-exists}
use Rattle.epx_laws.proofs.order.execution_order_exists.Goals as goal

pub returns : goal.returns
returns c = IsExecutionOrder-exists
