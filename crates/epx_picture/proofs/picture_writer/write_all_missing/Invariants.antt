use Rattle.std.proofs.Common.{◌≡◌, ◌++◌, flat_map, take, string_bytes}
use Rattle.epx_picture.specs.PictureText.{missing_box_line}
use Rattle.epx_picture.proofs.picture_writer.write_all_missing.Given as goal

abbrev pub invariant-loop-id : goal.invariant-loop-id
invariant-loop-id l = string_bytes l.text ≡ string_bytes l.initial.text
    ++ flat_map missing_box_line (take l.id-index l.missing)
