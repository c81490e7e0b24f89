-- Laws of commands executed one after another.
use Rattle.std.specs.Prelude.{◌≡◌, ℕ, List, [], ◌∷◌, ◌++◌, length, slice_get, Some}
use Rattle.epx_types.specs.declared.op.Op.{Op}
use Rattle.epx_types.specs.Contents.{Contents}
use Rattle.epx_types.specs.Commands.{command_on}
use Rattle.epx_types.specs.Execution.{execute}
use Rattle.epx_types.specs.Rearrangements.{commands_at, IsRearrangement}

-- executing a list of one command is executing that command
abbrev pub OneCommandExecutes : Type 0
OneCommandExecutes = (ops : List Op) (c : Contents) →
    ((execute (ops ∷ []) c).replies ≡ (command_on ops c).reply ∷ [])
    × ((execute (ops ∷ []) c).final ≡ (command_on ops c).after)

-- an execution has as many replies as commands
abbrev pub EachCommandReplies : Type 0
EachCommandReplies = (commands : List (List Op)) (c : Contents)
    → length (execute commands c).replies ≡ length commands

-- executing two lists one after the other is executing their concatenation
abbrev pub ExecutionAppends : Type 0
ExecutionAppends = (first rest : List (List Op)) (c : Contents) →
    ((execute (first ++ rest) c).replies ≡ (execute first c).replies
    ++ (execute rest (execute first c).final).replies)
    × ((execute (first ++ rest) c).final ≡ (execute rest (execute first c).final).final)

-- a rearrangement that keeps the order of any two commands that conflict leaves the same contents,
-- and each command has the same reply
abbrev pub RearrangementsExecuteAlike : Type 0
RearrangementsExecuteAlike = (commands : List (List Op)) (positions : List ℕ)
    → IsRearrangement commands positions → (c : Contents) →
    ((execute (commands_at commands positions) c).final ≡ (execute commands c).final)
    × ((k i : ℕ) → slice_get positions k ≡ Some i
    → slice_get (execute (commands_at commands positions) c).replies k
    ≡ slice_get (execute commands c).replies i)
