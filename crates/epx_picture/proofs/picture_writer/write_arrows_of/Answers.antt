use Rattle.std.proofs.Common.{◌++◌, slice_range, flat_map, string_bytes, sym, ap, ◌∙◌}
use Rattle.epx_types.proofs.Common.{append_assoc}
use Rattle.epx_picture.specs.PictureText.{arrow_lines}
use Rattle.epx_picture.proofs.FlatMapLemmas.{flat_map-next_of_range}
use Rattle.epx_picture.proofs.picture_writer.write_arrows_of.Goals as goal

pub loop-position-preserved : goal.loop-position-preserved
loop-position-preserved c =
    let before = string_bytes c.args.text.now in
    let m = c.args.merged.now in
    let start = c.args.start in
    let n = c.loop-position.position in
    let more = arrow_lines c.entry_at.result.now in
    c.in_ok-write_arrows.ensures ∙ ap (λ bytes. bytes ++ more) c.loop-position.invariant
    ∙ append_assoc before (flat_map arrow_lines (slice_range m start n)) more
    ∙ ap (λ bytes. before ++ bytes)
    (sym (flat_map-next_of_range arrow_lines m start n c.entry_at.result.now
    c.loop-position.auto.position c.entry_at.ensures))
