use Rattle.std.proofs.Common.{◌≡◌, ◌++◌, flat_map, slice_range, string_bytes}
use Rattle.epx_picture.specs.PictureText.{arrow_lines}
use Rattle.epx_picture.proofs.picture_writer.write_arrows_of.Given as goal

abbrev pub invariant-loop-position : goal.invariant-loop-position
invariant-loop-position l = string_bytes l.text ≡ string_bytes l.initial.text
    ++ flat_map arrow_lines (slice_range l.merged l.fn.start l.position)
