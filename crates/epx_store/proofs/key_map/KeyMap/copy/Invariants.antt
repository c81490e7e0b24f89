use Rattle.std.proofs.Common.{◌≡◌}
use Rattle.std.specs.FinMap as contents
use Rattle.epx_types.proofs.Common.{write_all}
use Rattle.epx_store.proofs.key_map.KeyMap.copy.Given as goal

abbrev pub invariant-loop-key : goal.invariant-loop-key
invariant-loop-key g l = write_all contents.insert l.key-iterator l.made
    ≡ write_all contents.insert l.initial.key-iterator contents.empty
