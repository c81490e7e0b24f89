-- Laws of commands that conflict, and of those that do not.
use Rattle.std.specs.Prelude.{◌≡◌, List}
use Rattle.epx_types.specs.declared.op.Op.{Op}
use Rattle.epx_types.specs.Conflicts.{Conflict}
use Rattle.epx_types.specs.Contents.{Contents}
use Rattle.epx_types.specs.Commands.{command_on}

-- if a command conflicts with another, that one conflicts with it
abbrev pub ConflictIsSymmetric : Type 0
ConflictIsSymmetric = (a b : List Op) → Conflict a b → Conflict b a

-- of two commands that do not conflict, the second has the reply that it has alone, and either
-- order leaves the same contents
abbrev pub CommandsExchange : Type 0
CommandsExchange = (a b : List Op) → ¬ Conflict a b → (c : Contents) →
    ((command_on b (command_on a c).after).reply ≡ (command_on b c).reply)
    × ((command_on b (command_on a c).after).after
    ≡ (command_on a (command_on b c).after).after)
