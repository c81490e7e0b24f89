use Rattle.std.proofs.Common.{◌≡◌, Bool, map, filter, take}
use Rattle.epx_picture.proofs.marked.marked_items.Given as goal

abbrev pub invariant-loop-index : goal.invariant-loop-index
invariant-loop-index g l = (test : _ → Bool) → l.marks ≡ map test l.items
    → l.kept.items ≡ filter test (take l.index l.items)
