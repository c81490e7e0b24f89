-- The effect of one command: all its operations in order, or nothing.
use Rattle.std.specs.Prelude.{ℕ, suc, ℤ, List, [], ◌∷◌, ◌++◌, Option, Some, None}
use Rattle.epx_types.specs.declared.op.Op.{Op}
use Rattle.epx_types.specs.declared.reply.Reply.{Reply}
use Rattle.epx_types.specs.declared.reply.Reply.TheVariants.{Values, Abort}
use Rattle.epx_types.specs.Contents.{Contents}
use Rattle.epx_types.specs.Operations.{operate}

-- what a command leads to: its reply, and the contents after it
pub record Outcome : Type 0 where
  pub reply : Reply
  pub after : Contents

-- `proceed` of the result of the operation at index j; if that is None, the outcome of an abort:
-- the reply `Abort j`, and the contents `before`
abbrev pub unless_aborted : Contents → ℕ → Option (Contents × List (Option ℤ))
    → (Contents × List (Option ℤ) → Outcome) → Outcome
unless_aborted before j None proceed = record { reply = Abort j; after = before }
unless_aborted before j (Some r) proceed = proceed r

-- the outcome of a command that began at the contents `before`, has read the values `got`, and is
-- at the contents c; the operations left are those from index j on
abbrev pub operate_all : Contents → ℕ → List Op → Contents → List (Option ℤ) → Outcome
operate_all before j [] c got = record { reply = Values got; after = c }
operate_all before j (op ∷ ops) c got =
    unless_aborted before j (operate op c) (λ r. operate_all before (suc j) ops r.0 (got ++ r.1))

-- the outcome of a command over the contents c: its operations in order, with the values read in
-- the reply. An abort replies with the index of its operation, from 0, and leaves the contents c
abbrev pub command_on : List Op → Contents → Outcome
command_on ops c = operate_all c 0 ops c []
