-- How many instances depend on each Id that is not committed.
use Rattle.std.specs.Prelude.{◌≡◌, ℕ, ◌+◌, zero, suc, ◌&&◌, Bool, not, List, [], Option, None}
use Rattle.std.specs.Prelude.{Some, if◌then◌else◌, count_by, flat_map, slice_get}
use Rattle.std.specs.List.{list_any}
use Rattle.std.specs.Map.{lookup}
use Rattle.std.specs.Option.{option_map_or}
use Rattle.epx_types.specs.contracts.id.IdPartialEq.TheImpl as id_eq
use Rattle.epx_types.specs.declared.id.Id.{Id}
use Rattle.epx_types.specs.Instances.{Instance}
use Rattle.epx_types.specs.PlacedLines.{Placed}
use Rattle.epx_versions.specs.SameInstances.{same_id}
use Rattle.epx_compare.specs.MissingDeps.{depends_on}

-- what a map stores for a count
abbrev pub stored : ℕ → Option ℕ
stored zero = None
stored (suc n) = Some (suc n)

-- the entries say how often each Id is counted
abbrev pub AreCounts : (Id → ℕ) → List (Id × ℕ) → Type 0
AreCounts counted entries = (x : Id) → lookup (id_eq.eq-value.it x) entries ≡ stored (counted x)

-- the Ids that pass the test are counted once more
abbrev pub with_one : (Id → Bool) → (Id → ℕ) → Id → ℕ
with_one test counted x = if test x then counted x + 1 else counted x

-- the Id is a dependency, and is not committed
abbrev pub is_missing : List Id → List Id → Id → Bool
is_missing ids deps x = not (list_any (same_id x) ids) && list_any (λ d. same_id d x) deps

-- the dependencies of the version with this number
abbrev pub deps_at : List Instance → ℕ → List Id
deps_at versions number = option_map_or (λ e. e.deps) (slice_get versions number) []

-- the dependencies of the versions with these numbers
abbrev pub deps_at_numbers : List Instance → List ℕ → List Id
deps_at_numbers versions numbers = flat_map (deps_at versions) numbers

-- how many of the instances `dependents` need x, if x is not committed
abbrev pub missing_count : List Placed → List Id → List Id → Id → ℕ
missing_count lines ids dependents x =
    count_by (λ y. not (list_any (same_id x) ids) && depends_on lines x y) dependents
