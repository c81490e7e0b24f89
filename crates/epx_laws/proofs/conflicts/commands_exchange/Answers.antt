use Rattle.epx_types.proofs.Common.{reply-no_conflict, after-exchanged}
use Rattle.epx_laws.proofs.conflicts.commands_exchange.Goals as goal

pub returns : goal.returns
returns c = λ a b apart d. (reply-no_conflict a b apart d, after-exchanged a b apart d)
