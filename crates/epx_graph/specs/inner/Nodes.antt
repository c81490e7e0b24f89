-- The nodes and edges of a committed map, while its graph is built.
use Rattle.std.specs.Prelude.{◌≡◌, ◌↔◌, ℕ, ◌<◌, ◌+◌, ◌*◌, min, not, List, length, take, drop, map}
use Rattle.std.specs.Prelude.{filter, filter_map, flat_map, All, AllPairs, Contains, Some}
use Rattle.std.specs.Prelude.{is_some, slice_get, slice_range}
use Rattle.epx_types.specs.declared.id.Id.{Id}
use Rattle.epx_types.specs.Ids.{IsRising}
use Rattle.epx_types.specs.Instances.{Instance}
use Rattle.epx_types.specs.CommittedMap.{ids_of, position_of}
use Rattle.epx_graph.specs.GraphOf.{IsMissing}
use Rattle.epx_rows.specs.between.Rows.{row_of}

-- the positions of the Ids that are committed
abbrev pub positions_of : List Instance → List Id → List ℕ
positions_of m xs = filter_map (position_of m) xs

-- the Ids of the list that are not committed
abbrev pub missing_of : List Instance → List Id → List Id
missing_of m xs = filter (λ x. not (is_some (position_of m x))) xs

-- for each instance, the positions of its committed dependencies
abbrev pub all_positions : List Instance → List Instance → List (List ℕ)
all_positions m es = map (λ e. positions_of m e.deps) es

-- the dependencies of all instances that are not committed, instance by instance
abbrev pub all_missing_of : List Instance → List Instance → List Id
all_missing_of m es = flat_map (λ e. missing_of m e.deps) es

-- the dependencies of some instances: committed ones by position, missing ones by Id
pub record IsGatheredOf (m es : List Instance) (rows : List (List ℕ)) (ids : List Id) : Type
    0 where
  pub committed : rows ≡ all_positions m es
  pub missing : ids ≡ all_missing_of m es
  pub deps_rise : All (λ e. IsRising e.deps) es

-- where a piece begins among n instances, and the one before it ends. All pieces have the same
-- size, but the last ones may be shorter or empty
abbrev pub first_of_piece : ℕ → ℕ → ℕ → ℕ
first_of_piece size n piece = min (piece * size) n

-- the instances of a map in one of its pieces, which are numbered from 0
abbrev pub instances_of_piece : ℕ → List Instance → ℕ → List Instance
instances_of_piece size m piece =
    let first = first_of_piece size (length m) in slice_range m (first piece) (first (piece + 1))

-- the dependencies of all instances; the Ids rise
pub record IsGathered (m : List Instance) (rows : List (List ℕ)) (ids : List Id) : Type 0 where
  pub all : IsGatheredOf m m rows ids
  pub instances_rise : IsRising (ids_of m)

-- the missing instances, each once
pub record AreMissingIds (m : List Instance) (ids : List Id) : Type 0 where
  pub rising : IsRising ids
  pub exact : (x : Id) → Contains ids x ↔ IsMissing m x

-- first the committed Ids, then the missing ones
pub record AreNodesOf (m : List Instance) (ids : List Id) : Type 0 where
  pub committed_rise : IsRising (ids_of m)
  pub committed : take (length m) ids ≡ ids_of m
  pub missing : AreMissingIds m (drop (length m) ids)

-- the positions of Ids of xs in the list, by rising position
pub record ArePositionsOf (ids xs : List Id) (row : List ℕ) : Type 0 where
  pub rising : AllPairs (λ i j. i < j) row
  pub exact : (j : ℕ) → Contains row j ↔ ((x : Id) × Contains xs x × (slice_get ids j ≡ Some x))

-- a row of edges for each of the first n instances
abbrev pub AreRowsOf : List Instance → List Id → List (List ℕ) → ℕ → Type 0
AreRowsOf m ids rows n = (length rows ≡ n)
    × ((k : ℕ) (e : Instance) → k < n → slice_get m k ≡ Some e
    → ArePositionsOf ids e.deps (row_of rows k))
