use Rattle.std.proofs.Common.{arith}
use Rattle.epx_types.proofs.Common.{common_steps}
use Rattle.std.proofs.lemmas.List.Elements.{All-more}
use Rattle.epx_lines.specs.inner.WrittenParts.{IsWritableId}
use Rattle.epx_lines.proofs.write.id_values.Goals as goal

pub loop-id-preserved : goal.loop-id-preserved
loop-id-preserved c = record {
  written = grind (
    arith,
    common_steps,
    c.loop-id.invariant.written,
    c.in_ok-id_value.ensures.data,
    c.in_ok-push.ensures.items,
  );
  fit = All-more IsWritableId c.args.ids.now c.loop-id.id-index _ (omega arith)
      c.loop-id.invariant.fit c.in_ok-id_value.ensures.fits;
}
