use Rattle.epx_types.proofs.Common.{Before-alike_reaching, Before-alike_reached}
use Rattle.epx_laws.proofs.order.related_keep_order.Goals as goal

pub returns : goal.returns
returns c = λ m ids other lawful lawful' x y before.
    record {
      there = Before-alike_reaching m ids other lawful lawful' x y before;
      back = Before-alike_reached m ids other lawful lawful' x y before;
    }
