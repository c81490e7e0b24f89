use Rattle.std.proofs.Common.{arith}
use Rattle.epx_verify.proofs.SaidValueLemmas.{values_of-many, values_of-begin}
use Rattle.epx_verify.proofs.said_line.read_values.Goals as goal

pub returns-then-len-gt-MAX_OPS : goal.returns-then-len-gt-MAX_OPS
returns-then-len-gt-MAX_OPS c = values_of-many _ _ c.in-Some.ensures (omega arith)

pub loop-element-init : goal.loop-element-init
loop-element-init c = values_of-begin _ c.in-Some.written.now.items _ _ c.in-Some.ensures
    (omega arith) c.deref-element-items.ensures.value c.in_ok-values.ensures.items
