-- The nodes from which an audit looks for uncovered pairs, in increasing order.
use Rattle.std.specs.Prelude.{◌≡◌, ℕ, ◌<◌, List, Bool, length, slice_index, Contains, IsTrue}
use Rattle.epx_types.specs.Instances.{Instance}
use Rattle.epx_audit.specs.inner.NodeConflicts.{IsSettled, IsPartner}
use Rattle.epx_components.specs.between.ReadyMarks.{is_marked}

-- all ready nodes that are marked as unsettled
pub record AreSources (ready unsettled : List Bool) (sources : List ℕ) : Type 0 where
  pub rising : (i j : ℕ) → i < j → j < length sources
      → slice_index sources i < slice_index sources j
  pub each : (i : ℕ) → i < length sources → IsTrue (is_marked ready (slice_index sources i))
      × (slice_index sources i < length unsettled)
  pub whole : (k : ℕ) → IsTrue (is_marked unsettled k) → IsTrue (is_marked ready k)
      → Contains sources k

-- the first n sources are settled with each node above them
abbrev pub AreSettled : List Instance → (ℕ → List ℕ) → List Bool → List ℕ → ℕ → Type 0
AreSettled m edges ready sources n =
    (i j : ℕ) → i < n → slice_index sources i < j
    → IsSettled m edges ready (slice_index sources i) j

-- the first source that has a partner, and that partner
pub record IsFirstPair (m : List Instance) (edges : ℕ → List ℕ) (ready : List Bool)
    (sources : List ℕ) (k j : ℕ) : Type 0 where
  pub at : ℕ
  pub source : (at < length sources) × (slice_index sources at ≡ k)
  pub before : AreSettled m edges ready sources at
  pub partner : IsPartner m edges ready k j

-- the least pair: no lower node has a partner, and j is the partner of k
pub record IsLeastPair (m : List Instance) (edges : ℕ → List ℕ) (ready : List Bool)
    (k j : ℕ) : Type 0 where
  pub before : (i n : ℕ) → i < k → i < n → IsSettled m edges ready i n
  pub partner : IsPartner m edges ready k j
