use Rattle.std.proofs.Common.{◌≡◌, take}
use Rattle.epx_types.proofs.Common.{ids_of}
use Rattle.epx_follow.proofs.first_places.entry_ids.Given as goal

abbrev pub invariant-loop-entry : goal.invariant-loop-entry
invariant-loop-entry l = l.ids.items ≡ ids_of (take l.entry-index l.entries)
