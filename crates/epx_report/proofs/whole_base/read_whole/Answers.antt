use Rattle.std.proofs.Common.{◌∙◌, flat_map, length, ap, subst, arith}
use Rattle.epx_types.proofs.Common.{IfOk-weaker}
use Rattle.epx_lines.specs.Lines.{lines_of}
use Rattle.epx_report.specs.Bases.{Say}
use Rattle.epx_report.proofs.LinesByKindLemmas.{IsBase-from_lines}
use Rattle.epx_report.proofs.whole_base.read_whole.Goals as goal

pub read_pieces-requires-after_bounds : goal.read_pieces-requires-after_bounds
read_pieces-requires-after_bounds g c =
    omega (
      arith,
      ap length c.deref.ensures.value,
      c.in_ok-pieces.ensures.few,
      c.in_ok-counts.ensures.rest,
    )

pub returns : goal.returns
returns g c =
    let header = c.in_ok-counts.ensures.header in
    let said = flat_map (λ part. part.items) c.in_ok-lines.lines.items in
    let are : Say (lines_of c.in_ok-counts.rest.now) said =
    subst (λ ls. Say ls said) (ap (flat_map (λ piece. lines_of piece.now)) c.deref.ensures.value
    ∙ c.in_ok-pieces.ensures.lines) c.in_ok-lines.ensures in
    IfOk-weaker c.into_base.result _ _ (λ b made.
    IsBase-from_lines c.args.bytes.now header.0 c.in_ok-counts.rest.now c.in_ok-counts.counts said
    c.in_ok-parts_of.field-0 b.done b.stored header.1 header.2 are c.in_ok-parts_of.ensures made)
    c.into_base.ensures
