use Rattle.std.proofs.Common.{◌≡◌, ◌++◌, flat_map, take, string_bytes}
use Rattle.epx_picture.specs.PictureText.{box_line}
use Rattle.epx_picture.proofs.picture_writer.write_boxes.Given as goal

abbrev pub invariant-loop-one : goal.invariant-loop-one
invariant-loop-one l = string_bytes l.text ≡ string_bytes l.initial.text
    ++ flat_map box_line (take l.one-index l.node_boxes)
