use Rattle.std.proofs.Common.{◌≡◌, ◌++◌, Bool, map, flat_map, take, string_bytes}
use Rattle.epx_types.specs.declared.id.Id.{Id}
use Rattle.epx_picture.specs.PictureText.{arrow_lines}
use Rattle.epx_picture.specs.PicturesAround.{part_near}
use Rattle.epx_picture.proofs.picture_writer.write_arrows_between.Given as goal

abbrev pub invariant-loop-position : goal.invariant-loop-position
invariant-loop-position l = (near : Id → Bool) → l.marks ≡ map near l.graph.ids
    → string_bytes l.text ≡ string_bytes l.initial.text
    ++ flat_map arrow_lines (part_near near (take l.position l.merged))
