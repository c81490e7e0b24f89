-- The effects of commands over contents that they only read, and replies at positions.
use Rattle.std.specs.Prelude.{ℕ, List, [], ◌∷◌, map, slice_set}
use Rattle.epx_types.specs.declared.command.Command.{Command}
use Rattle.epx_types.specs.declared.op.Op.{Op}
use Rattle.epx_types.specs.declared.reply.Reply.{Reply}
use Rattle.epx_types.specs.Contents.{Contents}
use Rattle.epx_types.specs.Commands.{command_on}
use Rattle.epx_types.specs.Writes.{writes_of}
use Rattle.epx_store.specs.declared.effect.Effect.{Effect}

-- the operation lists of commands
abbrev pub op_lists_of : List Command → List (List Op)
op_lists_of commands = map (λ c. c.ops.now) commands

-- the reply of a command and its writes
abbrev pub effect_over : Contents → List Op → Effect
effect_over c ops = record { reply = (command_on ops c).reply; writes = writes_of ops c }

-- the effects of commands, all over the same contents
abbrev pub effects_over : Contents → List (List Op) → List Effect
effects_over c commands = map (effect_over c) commands

-- the replies of some effects, in their order
abbrev pub replies_in : List Effect → List Reply
replies_in effects = map (λ e. e.reply) effects

-- puts each reply at its position, one after another
abbrev pub put_replies : List ℕ → List Reply → List Reply → List Reply
put_replies [] replies at = at
put_replies (i ∷ positions) [] at = at
put_replies (i ∷ positions) (r ∷ replies) at = put_replies positions replies (slice_set at i r)
