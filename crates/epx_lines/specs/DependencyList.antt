-- The dependencies of a line.
use Rattle.std.specs.Prelude.{◌^◌, Bool, not, List, [], ◌∷◌, filter, fold, Option, None}
use Rattle.std.specs.Prelude.{option_map, option_and_then}
use Rattle.std.specs.Ordering.{is_eq}
use Rattle.std.specs.BTreeSet.{insert_key}
use Rattle.serde_json.specs.Data.{Data}
use Rattle.epx_types.specs.declared.id.Id.{Id}
use Rattle.epx_types.specs.Ids.{id_cmp}
use Rattle.epx_lines.specs.Elements.{whole, elements, each_of_at_most}

-- the Id of a list of two numbers, a replica below 256 and a number below 2^64; None for any other
-- list
abbrev pub id_of_pair : List Data → Option Id
id_of_pair (r ∷ i ∷ []) =
    option_and_then
    (λ replica. option_map (λ number. record { replica = replica; number = number })
    (whole (2 ^ 64) i)) (whole 256 r)
id_of_pair _ = None

-- the Id that a JSON array `[r,i]` is, with r below 256 and i below 2^64; None for any other value
unfoldable pub id_of : Data → Option Id
id_of d = option_and_then id_of_pair (elements d)

-- x is not the Id of the instance itself
abbrev pub is_other : Id → Id → Bool
is_other self x = not (is_eq (id_cmp x self))

-- the distinct Ids of a list in rising order
abbrev pub rising_ids : List Id → List Id
rising_ids ids = fold (insert_key id_cmp) [] ids

-- the distinct Ids of a list in rising order, without that of the instance itself
abbrev pub rising_others : Id → List Id → List Id
rising_others self ids = rising_ids (filter (is_other self) ids)

-- the dependencies of the instance `self`: the distinct Ids of a JSON array of at most 256 Ids
-- `[r,i]`, in rising order, without its own; None for any other value
unfoldable pub deps_of : Id → Data → Option (List Id)
deps_of self d = option_map (rising_others self) (each_of_at_most 256 id_of d)
