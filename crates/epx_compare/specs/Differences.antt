-- How the lines of an instance differ: in which members, and which of them commit the same.
use Rattle.std.specs.Prelude.{ℕ, ◌∷◌, ◌++◌, Bool, not, List, [], map, filter, codes, if◌then◌else◌}
use Rattle.std.specs.List.{list_any}
use Rattle.epx_types.specs.declared.id.Id.{Id}
use Rattle.epx_types.specs.declared.place.Place.{Place}
use Rattle.epx_types.specs.Instances.{Instance}
use Rattle.epx_types.specs.PlacedLines.{Placed}
use Rattle.epx_versions.specs.LineVersions.{versions_of}
use Rattle.epx_versions.specs.SameInstances.{same_id, same_seq, same_deps, same_ops, same_instance}

-- the lines of an instance
abbrev pub lines_of_id : List Placed → Id → List Placed
lines_of_id lines x = filter (λ p. same_id p.instance.id x) lines

-- two of the lines are not the same, by this test
abbrev pub some_differ : (Instance → Instance → Bool) → List Placed → Bool
some_differ same lines =
    list_any (λ p. list_any (λ q. not (same p.instance q.instance)) lines) lines

-- the name of a member if it differs, and none otherwise
abbrev pub named_if : Bool → List ℕ → List (List ℕ)
named_if differs name = if differs then name ∷ [] else []

-- those of `seq`, `deps` and `ops`, in this order, in which two of the lines differ
abbrev pub differing_members : List Placed → List (List ℕ)
differing_members lines = named_if (some_differ same_seq lines) (codes "seq")
    ++ (named_if (some_differ same_deps lines) (codes "deps")
    ++ named_if (some_differ same_ops lines) (codes "ops"))

-- the places of those of the lines that commit exactly this instance, in their order
abbrev pub places_of : List Placed → Instance → List Place
places_of lines e = map (λ p. p.place) (filter (λ p. same_instance e p.instance) lines)

-- the places of the lines, in one group for each distinct instance that they commit, in the order
-- of the first line of each
abbrev pub groups_of : List Placed → List (List Place)
groups_of lines = map (places_of lines) (versions_of lines)
