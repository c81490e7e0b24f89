-- Lines that are known, by the numbers of what they commit.
use Rattle.std.specs.Prelude.{◌≡◌, ℕ, List, Option, Some, Result, Ok, map, option_map, slice_get}
use Rattle.epx_types.specs.declared.fault.Why.{Why}
use Rattle.epx_types.specs.Instances.{Instance}
use Rattle.epx_lines.specs.declared.Line.{Line}
use Rattle.epx_lines.specs.declared.Line.TheVariants.{Entry}

-- the meaning of a line that commits the instance at this index of the list; None if there is none
abbrev pub meaning_of_version : List Instance → ℕ → Option (Result Line Why)
meaning_of_version versions v = option_map (λ e. Ok (Entry e)) (slice_get versions v)

-- `cache` has the meanings of cached lines; `numbers` has for each of them, in order, the index in
-- `versions` of the instance that it commits
abbrev pub AreKnown : List Instance → List (Result Line Why) → List ℕ → Type 0
AreKnown versions cache numbers = map (meaning_of_version versions) numbers ≡ map Some cache
