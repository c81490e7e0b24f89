use Rattle.std.proofs.Common.{inl, inr}
use Rattle.epx_types.proofs.Common.{Before-alike_reaching, Before-alike_reached}
use Rattle.epx_laws.proofs.order.conflicts_keep_order.Goals as goal

pub returns : goal.returns
returns c = λ m covered ids other lawful lawful' d e both before.
    elim (covered d e both.first both.second both.apart both.first_ready both.second_ready
    both.conflict) [
      | inl reaches ↦ Before-alike_reaching m ids other lawful lawful' d.id e.id before reaches
      | inr reached ↦ Before-alike_reached m ids other lawful lawful' d.id e.id before reached
    ]
