-- How many values the reply to a command has.
use Rattle.std.specs.Prelude.{ℕ, Bool, true, false, List, filter, length}
use Rattle.epx_types.specs.declared.op.Op.{Op}
use Rattle.epx_types.specs.declared.op.Op.TheVariants.{Get}

-- the operation is a `get`, which adds a value to the reply
abbrev pub is_get : Op → Bool
is_get (Get k) = true
is_get _ = false

-- the number of values in the reply to a command that does not abort
abbrev pub reply_length : List Op → ℕ
reply_length ops = length (filter is_get ops)
