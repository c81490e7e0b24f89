-- The keys that a command touches and writes, by the text of its operations alone.
use Rattle.std.specs.Prelude.{ℕ, Bool, true, false, List, [], ◌∷◌, map, filter, flat_map}
use Rattle.epx_types.specs.declared.op.Op.{Op}
use Rattle.epx_types.specs.declared.op.Op.TheVariants.{Get, Put, Del, Add, Is, Floor, Copy}
use Rattle.epx_types.specs.Keys.{rising_keys}

-- the keys of an operation; each is marked true if the operation writes it
abbrev pub accesses_of : Op → List (List ℕ × Bool)
accesses_of (Get k) = (k, false) ∷ []
accesses_of (Put k v) = (k, true) ∷ []
accesses_of (Del k) = (k, true) ∷ []
accesses_of (Add k n) = (k, true) ∷ []
accesses_of (Is k v) = (k, false) ∷ []
accesses_of (Floor k least) = (k, false) ∷ []
accesses_of (Copy k j) = (k, false) ∷ (j, true) ∷ []

-- the keys that an operation reads or writes: one, or the source and the target of a copy
abbrev pub touched_by : Op → List (List ℕ)
touched_by op = map (λ a. a.0) (accesses_of op)

-- the keys that an operation writes: the one that it sets, adds to or removes, if there is one
abbrev pub written_by : Op → List (List ℕ)
written_by op = map (λ a. a.0) (filter (λ a. a.1) (accesses_of op))

-- the distinct keys that the operations of a command touch (read or write), in rising order,
-- whether or not the command aborts
abbrev pub touched_keys : List Op → List (List ℕ)
touched_keys ops = rising_keys (flat_map touched_by ops)

-- the distinct keys that the operations of a command write, in rising order, whether or not the
-- command aborts
abbrev pub written_keys : List Op → List (List ℕ)
written_keys ops = rising_keys (flat_map written_by ops)
