-- Neighbours of an execution order of which neither reaches the other.
use Rattle.std.specs.Prelude.{◌≡◌, ◌↔◌, ℕ, true, List, Contains, AllPairs, Some, slice_get}
use Rattle.std.specs.Ordering.{ordering_then, is_lt}
use Rattle.std.specs.declared.cmp.Ordering.{Ordering}
use Rattle.epx_types.specs.declared.id.Id.{Id}
use Rattle.epx_types.specs.CommittedMap.{commands_in}
use Rattle.epx_types.specs.ExecutionOrder.{Ranked, ranked_ids}
use Rattle.epx_types.specs.Ids.{id_cmp}
use Rattle.epx_types.specs.Instances.{Instance}
use Rattle.epx_types.specs.Keys.{key_cmp}
use Rattle.epx_types.specs.Reaching.{Reaches}
use Rattle.epx_neighbours.specs.Neighbours.{AreNeighbours}

-- two instances, in the order in which they are executed, and a key
pub record NeighbourPair : Type 0 where
  pub before : Id
  pub after : Id
  pub key : List ℕ

-- by the first Id, the second Id and the key
abbrev pub pair_cmp : NeighbourPair → NeighbourPair → Ordering
pair_cmp a b = ordering_then (id_cmp a.before b.before)
    (ordering_then (id_cmp a.after b.after) (key_cmp a.key b.key))

-- pair a comes before pair b, by the first Id, the second Id and the key
abbrev pub PairBelow : NeighbourPair → NeighbourPair → Type 0
PairBelow a b = is_lt (pair_cmp a b) ≡ true

-- in this order of execution the two are neighbours on the key, `before` first, and neither reaches
-- the other
pub record IsUncoveredPair (m : List Instance) (order : List Ranked) (n : NeighbourPair) : Type
    0 where
  pub first : ℕ
  pub second : ℕ
  pub before : slice_get (ranked_ids order) first ≡ Some n.before
  pub after : slice_get (ranked_ids order) second ≡ Some n.after
  pub neighbours : AreNeighbours (commands_in m (ranked_ids order)) first second n.key
  pub apart : (¬ Reaches m n.before n.after) × (¬ Reaches m n.after n.before)

-- all uncovered pairs of an execution order, each once, rising
pub record AreUncoveredPairs (m : List Instance) (order : List Ranked)
    (pairs : List NeighbourPair) : Type 0 where
  pub exact : (n : NeighbourPair) → Contains pairs n ↔ IsUncoveredPair m order n
  pub rising : AllPairs PairBelow pairs
