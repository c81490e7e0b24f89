-- Laws of what commands read and write.
use Rattle.std.specs.Prelude.{◌≡◌, ◌↔◌, ◌<◌, length, take, ℕ, ℤ, List, [], Contains, AllPairs}
use Rattle.std.specs.Prelude.{Option}
use Rattle.epx_types.specs.declared.op.Op.{Op}
use Rattle.epx_types.specs.declared.reply.Reply.TheVariants.{Values, Abort}
use Rattle.epx_types.specs.Keys.{KeyBelow, rising_keys}
use Rattle.epx_types.specs.Contents.{Contents, AgreeOn}
use Rattle.epx_types.specs.Commands.{command_on}
use Rattle.epx_types.specs.CommandKeys.{touched_keys, written_keys}
use Rattle.epx_types.specs.Writes.{Write, writes_of, apply_writes, HasDistinctKeys}

-- the contents after a command are those before it with its writes applied
abbrev pub WritesAreTheEffect : Type 0
WritesAreTheEffect = (ops : List Op) (c : Contents)
    → apply_writes (writes_of ops c) c ≡ (command_on ops c).after

-- an aborted command leaves the contents unchanged and writes nothing
abbrev pub AbortLeavesContents : Type 0
AbortLeavesContents = (ops : List Op) (c : Contents) (j : ℕ) → (command_on ops c).reply ≡ Abort j
    → ((command_on ops c).after ≡ c) × (writes_of ops c ≡ [])

-- an abort names the index of an operation, and the operations before it succeed
abbrev pub AbortNamesIndex : Type 0
AbortNamesIndex = (ops : List Op) (c : Contents) (j : ℕ) → (command_on ops c).reply ≡ Abort j →
    (j < length ops)
    × ((reads : List (Option ℤ)) × ((command_on (take j ops) c).reply ≡ Values reads))

-- each write of a command is to one of its written keys
abbrev pub WritesNameWrittenKeys : Type 0
WritesNameWrittenKeys = (ops : List Op) (c : Contents) (w : Write) → Contains (writes_of ops c) w
    → Contains (written_keys ops) w.0

-- no two of a command's writes (`writes_of`) are to one key
abbrev pub NoKeyWrittenTwice : Type 0
NoKeyWrittenTwice = (ops : List Op) (c : Contents) → HasDistinctKeys (writes_of ops c)

-- over contents that agree on the touched keys, a command has the same reply and the same writes
abbrev pub TouchedKeysDecide : Type 0
TouchedKeysDecide = (ops : List Op) (c d : Contents) → AgreeOn (touched_keys ops) c d →
    ((command_on ops c).reply ≡ (command_on ops d).reply) × (writes_of ops c ≡ writes_of ops d)

-- `rising_keys` of a list has exactly the keys of the list, each once, in rising order
abbrev pub KeysRise : Type 0
KeysRise = (ks : List (List ℕ)) → AllPairs KeyBelow (rising_keys ks)
    × ((k : List ℕ) → Contains (rising_keys ks) k ↔ Contains ks k)
