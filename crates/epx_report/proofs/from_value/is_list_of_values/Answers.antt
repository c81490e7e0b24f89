use Rattle.std.proofs.Common.{arith}
use Rattle.epx_report.proofs.ValueListLemmas.{is_value_list-many, is_value_list-begin}
use Rattle.epx_report.proofs.from_value.is_list_of_values.Goals as goal

pub returns-then-len-gt-MAX_OPS : goal.returns-then-len-gt-MAX_OPS
returns-then-len-gt-MAX_OPS c = is_value_list-many _ _ c.in-Some.ensures (omega arith)

pub loop-value-init : goal.loop-value-init
loop-value-init c = is_value_list-begin _ _ _ c.in-Some.ensures (omega arith)
    c.deref-value-items.ensures.value
