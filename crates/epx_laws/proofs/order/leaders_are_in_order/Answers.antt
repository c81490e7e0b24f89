use Rattle.epx_types.proofs.Common.{IsExecutionOrder-leaders}
use Rattle.epx_laws.proofs.order.leaders_are_in_order.Goals as goal

pub returns : goal.returns
returns c = IsExecutionOrder-leaders
