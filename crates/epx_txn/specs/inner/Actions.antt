-- What an operation does, once the value that it uses is read.
use Rattle.std.specs.Prelude.{◌≡◌, ℕ, ℤ, List, [], ◌∷◌, Option, Some, None, option_and_then}
use Rattle.std.specs.FinMap as contents
use Rattle.epx_types.specs.Contents.{Contents, assign}
use Rattle.epx_types.specs.Operations.{operate}
use Rattle.epx_types.specs.CommandKeys.{written_by}
use Rattle.epx_types.specs.declared.op.Op.{Op}
use Rattle.epx_types.specs.declared.op.Op.TheVariants.{Get, Put, Del, Add, Is, Floor, Copy}
use Rattle.epx_txn.specs.declared.action.Action.{Action}
use Rattle.epx_txn.specs.declared.action.Action.TheVariants.{Read, Write, Pass, Abort}

-- the key whose value the operation uses
abbrev pub key_used : Op → Option (List ℕ)
key_used (Get k) = Some k
key_used (Put k v) = None
key_used (Del k) = None
key_used (Add k n) = Some k
key_used (Is k v) = Some k
key_used (Floor k least) = Some k
key_used (Copy k j) = Some k

-- the value that the operation uses
abbrev pub value_used : Op → Contents → Option ℤ
value_used op c = option_and_then (contents.get c) (key_used op)

-- the action is what the operation does to the contents c
abbrev pub IsAction : Action → Op → Contents → Type 0
IsAction (Read v) op c = (operate op c ≡ Some (c, v ∷ [])) × (written_by op ≡ [])
IsAction (Write k v) op c =
    (operate op c ≡ Some (assign c k.now v, [])) × (written_by op ≡ k.now ∷ [])
IsAction Pass op c = (operate op c ≡ Some (c, [])) × (written_by op ≡ [])
IsAction Abort op c = operate op c ≡ None
