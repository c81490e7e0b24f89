-- The effect of one operation on the contents of a store.
use Rattle.std.specs.Prelude.{◌^◌, ℤ, pos, neg_ℤ, ◌+ℤ◌, ◌&&◌, Bool, true, false, not, int_lt, List}
use Rattle.std.specs.Prelude.{[], ◌∷◌, Option, Some, None, if◌then◌else◌}
use Rattle.std.specs.FinMap as contents
use Rattle.epx_types.specs.declared.op.Op.{Op}
use Rattle.epx_types.specs.declared.op.Op.TheVariants.{Get, Put, Del, Add, Is, Floor, Copy}
use Rattle.epx_types.specs.Contents.{Contents, assign, amount_at}

-- the number is a signed 64-bit integer
abbrev pub fits_i64 : ℤ → Bool
fits_i64 z = not (int_lt z (neg_ℤ (pos (2 ^ 63)))) && int_lt z (pos (2 ^ 63))

-- whether two values of keys are equal; None means absence, which equals no number
abbrev pub same_value : Option ℤ → Option ℤ → Bool
same_value None None = true
same_value None (Some w) = false
same_value (Some v) None = false
same_value (Some v) (Some w) = not (int_lt v w) && not (int_lt w v)

-- the contents after an operation, and the value that a `Get` adds to the reply. None if it aborts:
-- an `Add` whose sum does not fit in 64 bits, an `Is` of a value that the key does not have, a
-- `Floor` above the key's value. `Add` and `Floor` count an absent key as 0
abbrev pub operate : Op → Contents → Option (Contents × List (Option ℤ))
operate (Get k) c = Some (c, contents.get c k ∷ [])
operate (Put k v) c = Some (assign c k (Some v), [])
operate (Del k) c = Some (assign c k None, [])
operate (Add k n) c = if fits_i64 (amount_at c k +ℤ n) then Some
    (assign c k (Some (amount_at c k +ℤ n)), []) else None
operate (Is k v) c = if same_value (contents.get c k) v then Some (c, []) else None
operate (Floor k least) c = if int_lt (amount_at c k) least then None else Some (c, [])
operate (Copy k j) c = Some (assign c j (contents.get c k), [])
