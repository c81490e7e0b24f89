use Rattle.epx_types.proofs.Common.{on_ok_weaker}
use Rattle.epx_lines.proofs.WrittenLineLemmas.{IsWritableEntry-from_parts}
use Rattle.epx_lines.proofs.write.entry_value.Goals as goal

pub returns-clause-fits : goal.returns-clause-fits
returns-clause-fits c =
    let deps = rw c.deps.ensures.deps at c.in_ok-id_values.ensures.fit in
    let ops = rw c.ops.ensures.ops at c.in_ok-op_values.ensures.fit in
    let numbers = rw (c.id-replica.ensures, c.seq.ensures) at c.object_value.ensures.fit in
    on_ok_weaker c.object_value.result
    (λ fit. IsWritableEntry-from_parts c.args.entry.now c.deps.ensures.fits fit deps ops)
    numbers
