use Rattle.std.proofs.Common.{◌≡◌, ◌++◌, flat_map, take, string_bytes}
use Rattle.epx_picture.specs.PictureText.{arrow_line}
use Rattle.epx_picture.proofs.picture_writer.write_arrows.Given as goal

abbrev pub invariant-loop-dependency : goal.invariant-loop-dependency
invariant-loop-dependency l = string_bytes l.text ≡ string_bytes l.initial.text
    ++ flat_map (arrow_line l.id) (take l.dependency-index l.dependency-items)
