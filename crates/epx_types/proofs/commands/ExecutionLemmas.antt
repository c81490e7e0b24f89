-- Executing commands one after another.
use Rattle.std.proofs.Common.{◌≡◌, suc, List, [], ◌∷◌, ◌++◌, length, refl, ap}
use Rattle.epx_types.specs.declared.op.Op.{Op}
use Rattle.epx_types.specs.Contents.{Contents}
use Rattle.epx_types.specs.Commands.{command_on}
use Rattle.epx_types.specs.Execution.{execute}

-- each command has a reply
pub length-replies : (commands : List (List Op)) (c : Contents)
    → length (execute commands c).replies ≡ length commands
length-replies [] c = refl
length-replies (ops ∷ rest) c = ap (λ n. suc n) (length-replies rest (command_on ops c).after)

-- executing two lists one after the other
pub execute-append : (first rest : List (List Op)) (c : Contents)
    → ((execute (first ++ rest) c).replies ≡ (execute first c).replies
    ++ (execute rest (execute first c).final).replies)
    × ((execute (first ++ rest) c).final ≡ (execute rest (execute first c).final).final)
execute-append [] rest c = (refl, refl)
execute-append (ops ∷ first) rest c =
    let on = execute-append first rest (command_on ops c).after in
    (ap (λ replies. (command_on ops c).reply ∷ replies) on.0, on.1)
