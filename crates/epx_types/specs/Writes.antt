-- The writes of a command, and contents after writes.
use Rattle.std.specs.Prelude.{◌≢◌, ℕ, ℤ, List, [], ◌∷◌, map, AllPairs, Option}
use Rattle.std.specs.FinMap as contents
use Rattle.epx_types.specs.declared.op.Op.{Op}
use Rattle.epx_types.specs.declared.reply.Reply.{Reply}
use Rattle.epx_types.specs.declared.reply.Reply.TheVariants.{Values, Abort}
use Rattle.epx_types.specs.Contents.{Contents, assign}
use Rattle.epx_types.specs.Commands.{command_on}
use Rattle.epx_types.specs.CommandKeys.{written_keys}

-- a key with its new value, or None if it is removed
abbrev pub Write : Type 0
Write = List ℕ × Option ℤ

-- the writes of a command with this reply, which leaves the contents `after`: none if it aborts,
-- and otherwise each written key with its value there, by rising key
abbrev pub writes_by : Reply → List Op → Contents → List Write
writes_by (Values got) ops after = map (λ k. (k, contents.get after k)) (written_keys ops)
writes_by (Abort j) ops after = []

-- what a command over the contents c writes: each written key with its value afterwards, by rising
-- key; nothing if the command aborts
abbrev pub writes_of : List Op → Contents → List Write
writes_of ops c = writes_by (command_on ops c).reply ops (command_on ops c).after

-- the contents after writes, applied one after another
abbrev pub apply_writes : List Write → Contents → Contents
apply_writes [] c = c
apply_writes (w ∷ ws) c = apply_writes ws (assign c w.0 w.1)

-- no two of the writes are to one key
abbrev pub HasDistinctKeys : List Write → Type 0
HasDistinctKeys ws = AllPairs (λ v w. v.0 ≢ w.0) ws
