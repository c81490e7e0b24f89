use Rattle.std.proofs.Common.{◌≡◌, ◌++◌, Bool, map, filter, flat_map, take, string_bytes}
use Rattle.epx_types.specs.declared.id.Id.{Id}
use Rattle.epx_picture.specs.PictureText.{arrow_line}
use Rattle.epx_picture.proofs.picture_writer.write_marked_arrows.Given as goal

abbrev pub invariant-loop-dependency : goal.invariant-loop-dependency
invariant-loop-dependency l = (near : Id → Bool) → l.marks ≡ map near l.graph.ids
    → string_bytes l.text ≡ string_bytes l.initial.text
    ++ flat_map (arrow_line l.id) (filter near (take l.dependency-index l.dependency-items))
