use Rattle.std.proofs.Common.{◌≡◌, map, take}
use Rattle.epx_audit.specs.inner.NodeConflicts.{keys_of}
use Rattle.epx_audit.proofs.conflicts.all_keys.Given as goal

abbrev pub invariant-loop-position : goal.invariant-loop-position
invariant-loop-position l = l.keys.items ≡ map keys_of (take l.position l.merged)
