-- The keys of commands, and their numbers.
use Rattle.std.specs.Prelude.{ℕ, suc, List, [], ◌∷◌, flat_map, if◌then◌else◌}
use Rattle.std.specs.Ordering.{is_eq}
use Rattle.epx_types.specs.declared.op.Op.{Op}
use Rattle.epx_types.specs.CommandKeys.{touched_by}
use Rattle.epx_types.specs.Keys.{key_cmp, rising_keys}

-- all keys that commands touch, rising
abbrev pub keys_in : List (List Op) → List (List ℕ)
keys_in commands = rising_keys (flat_map (flat_map touched_by) commands)

-- how many keys of a list come before a key
abbrev pub number_of : List (List ℕ) → List ℕ → ℕ
number_of [] k = 0
number_of (j ∷ js) k = if is_eq (key_cmp j k) then 0 else suc (number_of js k)
