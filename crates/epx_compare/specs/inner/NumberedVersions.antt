-- Versions and rows by number, and the members in which versions differ.
use Rattle.std.specs.Prelude.{◌≡◌, ℕ, ◌∷◌, ◌++◌, Bool, false, not, List, [], codes, slice_index_or}
use Rattle.std.specs.List.{list_any}
use Rattle.epx_types.specs.declared.place.Place.{Place}
use Rattle.epx_types.specs.Instances.{Instance}
use Rattle.epx_compare.specs.declared.members.Members.{Members}
use Rattle.epx_versions.specs.declared.noted.NotedLine.{NotedLine}
use Rattle.epx_compare.specs.Differences.{named_if}
use Rattle.epx_versions.specs.SameInstances.{same_seq, same_deps, same_ops}

-- past the last version, any instance
abbrev pub version_at : List Instance → ℕ → Instance
version_at versions v = slice_index_or versions v
    (record { id = record { replica = 0; number = 0 }; seq = 0; deps = []; ops = [] })

-- some of the versions with these numbers is not the same as this one, by this test
abbrev pub differs_from : (Instance → Instance → Bool) → Instance → List Instance → List ℕ → Bool
differs_from same e versions numbers =
    list_any (λ v. not (same e (version_at versions v))) numbers

-- past the last row, any place
abbrev pub place_at : List NotedLine → ℕ → Place
place_at rows index = (slice_index_or rows index
    (record { place = record { log = 0; line = 0 }; version = 0 })).place

-- a later one is not the same as the first, by this test
abbrev pub later_differs : (Instance → Instance → Bool) → List Instance → Bool
later_differs same [] = false
later_differs same (e ∷ es) = list_any (λ f. not (same e f)) es

-- these are the members in which the versions differ
pub record AreDiffering (es : List Instance) (m : Members) : Type 0 where
  pub seq : m.seq ≡ later_differs same_seq es
  pub deps : m.deps ≡ later_differs same_deps es
  pub ops : m.ops ≡ later_differs same_ops es

-- the names of the members that differ, in the order in which an answer has them
abbrev pub names_of : Members → List (List ℕ)
names_of m = named_if m.seq (codes "seq")
    ++ (named_if m.deps (codes "deps") ++ named_if m.ops (codes "ops"))
