use Rattle.std.proofs.Common.{◌≡◌, take}
use Rattle.epx_linear.specs.ClientCalls.{calls_at, calls_in}
use Rattle.epx_linear.proofs.call_places.find_piece.Given as goal

abbrev pub invariant-loop-id : goal.invariant-loop-id
invariant-loop-id l = calls_at l.history l.places.items
    ≡ calls_in l.history (take l.id-index l.id-items)
