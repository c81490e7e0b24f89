use Rattle.epx_types.proofs.Common.{final-lawful, reply-lawful}
use Rattle.epx_laws.proofs.order.lawful_orders_execute_alike.Goals as goal

pub returns : goal.returns
returns c = λ m rising covered ids other lawful lawful' d. (
  final-lawful m rising covered ids other lawful lawful' d,
  reply-lawful m rising covered ids other lawful lawful' d,
)
