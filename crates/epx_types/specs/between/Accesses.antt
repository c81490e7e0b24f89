-- The accesses of an operation in memory: one, or two.
use Rattle.std.specs.Prelude.{ℕ, Bool, List, [], ◌∷◌, Option, Some, None}
use Rattle.epx_types.specs.declared.op.Access.{Access}

-- an access in memory, as definitions see it: the bytes of its key, and whether it writes the key
abbrev pub access_of : Access → List ℕ × Bool
access_of a = (a.key.now, a.writes)

-- the one or two accesses of an operation in memory, in their order
abbrev pub accesses_in : Access → Option Access → List (List ℕ × Bool)
accesses_in first None = access_of first ∷ []
accesses_in first (Some second) = access_of first ∷ access_of second ∷ []
