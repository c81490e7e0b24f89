use Rattle.std.proofs.Common.{arith, subst}
use Rattle.epx_types.proofs.Common.{common_steps}
use Rattle.epx_types.specs.declared.op.Op.{Op}
use Rattle.std.proofs.lemmas.List.Elements.{All-more}
use Rattle.epx_lines.specs.inner.WrittenParts.{IsWritableOp}
use Rattle.epx_lines.proofs.write.op_values.Goals as goal

pub loop-op-preserved : goal.loop-op-preserved
loop-op-preserved c = record {
  written = grind (
    arith,
    common_steps,
    c.loop-op.invariant.written,
    c.in_ok-op_value.ensures.data,
    c.in_ok-push.ensures.items,
  );
  fit = All-more IsWritableOp c.args.ops.now c.loop-op.op-index c.op-item.result (omega arith)
      c.loop-op.invariant.fit (let P : Op → Type 0 = IsWritableOp in
      subst P c.op-item.is c.in_ok-op_value.ensures.fits);
}
