-- Commands executed one after another.
use Rattle.std.specs.Prelude.{List, [], ◌∷◌}
use Rattle.epx_types.specs.declared.op.Op.{Op}
use Rattle.epx_types.specs.declared.reply.Reply.{Reply}
use Rattle.epx_types.specs.Contents.{Contents}
use Rattle.epx_types.specs.Commands.{command_on}

-- what executing commands leads to: the reply of each, in their order, and the contents after the
-- last
pub record Execution : Type 0 where
  pub replies : List Reply
  pub final : Contents

-- the commands executed one after another, the first over the contents c: the reply of each, in
-- this order, and the contents after the last
abbrev pub execute : List (List Op) → Contents → Execution
execute [] c = record { replies = []; final = c }
execute (ops ∷ rest) c =
    let o = command_on ops c in
    let e = execute rest o.after in record { replies = o.reply ∷ e.replies; final = e.final }
