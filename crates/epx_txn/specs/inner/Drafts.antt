-- The writes of a command so far, over contents that it only reads.
use Rattle.std.specs.Prelude.{◌≡◌, ℤ, [], ◌∷◌, Option, Some, None}
use Rattle.std.specs.FinMap as contents
use Rattle.std.specs.FinMap.{FinMap}
use Rattle.epx_types.specs.Keys.{key_cmp, add_keys}
use Rattle.epx_types.specs.Contents.{Contents}
use Rattle.epx_types.specs.Operations.{operate}
use Rattle.epx_types.specs.CommandKeys.{written_by}
use Rattle.epx_types.specs.Writes.{apply_writes}
use Rattle.epx_types.specs.declared.op.Op.{Op}
use Rattle.epx_txn.specs.declared.draft.Step.{Step}
use Rattle.epx_txn.specs.declared.draft.Step.TheVariants.{Read, Done, Abort}

-- under each written key a value, or None for absence
abbrev pub Draft : Type 0
Draft = FinMap key_cmp (Option ℤ)

-- the contents as the command sees them
abbrev pub contents_through : Draft → Contents → Contents
contents_through d c = apply_writes (contents.entries d) c

-- the keys that the operation writes are added to the written ones
abbrev pub AddsKeys : Op → Draft → Draft → Type 0
AddsKeys op before after = contents.keys after ≡ add_keys (contents.keys before) (written_by op)

-- what an operation does to a draft over the contents c
abbrev pub IsStepOf : Step → Op → Contents → Draft → Draft → Type 0
IsStepOf (Read v) op c before after =
    (operate op (contents_through before c) ≡ Some (contents_through after c, v ∷ []))
    × AddsKeys op before after
IsStepOf Done op c before after =
    (operate op (contents_through before c) ≡ Some (contents_through after c, []))
    × AddsKeys op before after
IsStepOf Abort op c before after = operate op (contents_through before c) ≡ None
