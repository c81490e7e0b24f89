use Rattle.epx_types.proofs.Common.{IsExecutionOrder-IsLawful}
use Rattle.epx_laws.proofs.order.execution_order_is_lawful.Goals as goal

pub returns : goal.returns
returns c = IsExecutionOrder-IsLawful
